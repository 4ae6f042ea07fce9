-- Which fields are numbers, and what they say.
use Rattle.std.specs.Prelude.{◌≡◌, ℕ, ◌+◌, ◌-◌, ◌*◌, Bool, true, false, cond, ◌&&◌, List, [], ◌∷◌, length, Ok, Err, Result, ◌==◌, nat_le, nat_lt, min, slice_index, take, drop, ◌⊎◌, MatchResult}
use Rattle.std.specs.Borrow.{Bor}
use Rattle.std.specs.Char.{is_ascii_digit}
use Rattle.std.specs.List.{list_all, prefix_len}
use Rattle.script.specs.declared.refusal.Refusal.{Refusal}
use Rattle.script.specs.declared.refusal.Refusal.TheVariants as why

-- digits, at least one, with no leading zero
abbrev pub numeral : List ℕ → Bool
numeral ds = cond (length ds == 0) false (cond (slice_index ds 0 == 48 && nat_lt 1 (length ds)) false (list_all is_ascii_digit ds))

-- the number that the digits ds say after the number n
abbrev pub value_after : ℕ → List ℕ → ℕ
value_after n [] = n
value_after n (d ∷ ds) = value_after (10 * n + (d - 48)) ds

abbrev pub value : List ℕ → ℕ
value ds = value_after 0 ds

-- the number that the digits say, if it is not too large
abbrev pub bounded : List ℕ → Result ℕ Refusal
bounded ds = cond (nat_le (value ds) 4294967295) (Ok (value ds)) (Err why.Number)

-- the first count bytes of the text are a numeral, a 0 or all digits there; n is the number that it says, or 2 ^ 32 where it is larger, and more stands after it
pub record FrontNumeral (text : List ℕ) (n : ℕ) (more : List ℕ) : Type 0 where
  pub count : ℕ
  pub is : numeral (take count text) ≡ true
  pub says : n ≡ min (value (take count text)) 4294967296
  pub rest : more ≡ drop count text
  pub whole : ((count ≡ 1) × (slice_index text 0 ≡ 48)) ⊎ (count ≡ prefix_len is_ascii_digit text)

-- a numeral stands at the front of the text, or no digit does
abbrev pub FrontTold : List ℕ → Result (ℕ × Bor (List ℕ)) Refusal → Type 0
FrontTold text r = MatchResult r (λ p. FrontNumeral text p.0 p.1.now) (λ e. (prefix_len is_ascii_digit text ≡ 0) × (e ≡ why.Fields))

-- the fields fs are a numeral and those that are left, gs; n is the number that it says, or 2 ^ 32 where it is larger
pub record LedByNumber (fs : List (List ℕ)) (n : ℕ) (gs : List (List ℕ)) : Type 0 where
  pub field : List ℕ
  pub parts : fs ≡ field ∷ gs
  pub is : numeral field ≡ true
  pub says : n ≡ min (value field) 4294967296

-- no field is left, or the first is no numeral
abbrev pub LedByNone : List (List ℕ) → Type 0
LedByNone [] = Unit {0}
LedByNone (f ∷ fs) = numeral f ≡ false

-- a number was taken from the fields fs, or there was none
abbrev pub TookNumber : List (List ℕ) → Result ℕ Refusal → List (List ℕ) → Type 0
TookNumber fs (Ok n) gs = LedByNumber fs n gs
TookNumber fs (Err e) gs = LedByNone fs × (e ≡ why.Fields)

-- the number n, if it is not too large
abbrev pub narrowed : ℕ → Result ℕ Refusal
narrowed n = cond (nat_le n 4294967295) (Ok n) (Err why.Number)

-- the fields are one number and nothing else
abbrev pub one : List (List ℕ) → Result ℕ Refusal
one [] = Err why.Fields
one (a ∷ []) = cond (numeral a) (bounded a) (Err why.Fields)
one (a ∷ b ∷ fs) = Err why.Fields

-- both numbers, unless one is too large
abbrev pub pair : Result ℕ Refusal → Result ℕ Refusal → Result (ℕ × ℕ) Refusal
pair (Ok m) (Ok n) = Ok (m, n)
pair (Ok m) (Err e) = Err e
pair (Err e) n = Err e

-- the fields are two numbers and nothing else
abbrev pub two : List (List ℕ) → Result (ℕ × ℕ) Refusal
two [] = Err why.Fields
two (a ∷ []) = Err why.Fields
two (a ∷ b ∷ []) = cond (numeral a && numeral b) (pair (bounded a) (bounded b)) (Err why.Fields)
two (a ∷ b ∷ c ∷ fs) = Err why.Fields

-- all three numbers, unless one is too large
abbrev pub triple : Result ℕ Refusal → Result ℕ Refusal → Result ℕ Refusal → Result (ℕ × ℕ × ℕ) Refusal
triple (Ok l) (Ok m) (Ok n) = Ok (l, m, n)
triple (Ok l) (Ok m) (Err e) = Err e
triple (Ok l) (Err e) n = Err e
triple (Err e) m n = Err e

-- the fields are three numbers and nothing else
abbrev pub three : List (List ℕ) → Result (ℕ × ℕ × ℕ) Refusal
three [] = Err why.Fields
three (a ∷ []) = Err why.Fields
three (a ∷ b ∷ []) = Err why.Fields
three (a ∷ b ∷ c ∷ []) = cond (numeral a && (numeral b && numeral c)) (triple (bounded a) (bounded b) (bounded c)) (Err why.Fields)
three (a ∷ b ∷ c ∷ d ∷ fs) = Err why.Fields
