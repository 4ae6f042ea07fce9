-- The digits at the front of a text, and the first of its fields.
use Rattle.std.proofs.Common.{◌≡◌, ◌≢◌, ℕ, suc, ◌+◌, ◌-◌, ◌<◌, ◌≤◌, Bool, true, false, Some, None, Option, Ok, Err, not, cond, eqb, List, [], ◌∷◌, length, min, get_or, take, drop, refl, sym, ap, ◌∙◌, one-add, add-zero, ◌==◌, length-drop, length-take, arith, inl, inr, ⊎_elim}
use Rattle.std.proofs.lemmas.Grind.{common_steps}
use Rattle.std.proofs.lemmas.Bool.{cases_Bool, cases_eq, cases_lt, eqb-false, eqb-true, ne_eqb}
use Rattle.std.proofs.lemmas.Bool.Decides.{nat_tests}
use Rattle.std.proofs.lemmas.List.Sums.{fails_before_first, passes_at_first, prefix_len-le-length, prefix_len_stops}
use Rattle.std.proofs.lemmas.List.{get_or-drop, get_or-take}
use Rattle.std.proofs.lemmas.List.Folds.{list_all_at}
use Rattle.std.specs.Char.{is_ascii_digit}
use Rattle.std.specs.List.{list_all, prefix_len}
use Rattle.std.specs.Borrow.{Bor}
use Rattle.script.specs.declared.refusal.Refusal.{Refusal}
use Rattle.script.specs.Cuts.{before, fields, later_fields}
use Rattle.script.specs.Fields.{PastSpace, left}
use Rattle.script.specs.Numbers.{FrontNumeral, LedByNone, LedByNumber, numeral, value_after}
use Rattle.script.proofs.Pieces.{first_field}

fits_front : (p : ℕ → Bool) (x : ℕ) (xs : List ℕ) (n : ℕ) → list_all p (take n xs) ≡ true → list_all p (take (cond (p x) (1 + n) 0) (x ∷ xs)) ≡ true
fits_front p x xs n all = ⊎_elim (λ (yes : p x ≡ true). rw (yes, one-add) (grind (arith, common_steps))) (λ (no : p x ≡ false). rw no refl) (cases_Bool (p x))

-- all of the elements that pass at the front do
all_in_front : (p : ℕ → Bool) (xs : List ℕ) → list_all p (take (prefix_len p xs) xs) ≡ true
all_in_front p [] = refl
all_in_front p (x ∷ xs) = fits_front p x xs (prefix_len p xs) (all_in_front p xs)

one_within : (x : ℕ) (a b : ℕ) → a ≤ b → cond (is_ascii_digit x) (1 + a) 0 ≤ cond (not (eqb x 32)) (1 + b) 0
one_within x a b le = grind (arith, nat_tests)

-- no digit is a space
digits_before_space : (xs : List ℕ) → prefix_len is_ascii_digit xs ≤ before 32 xs
digits_before_space [] = omega arith
digits_before_space (x ∷ xs) = one_within x _ _ (digits_before_space xs)

no_space_yet : (xs : List ℕ) (k : ℕ) → k ≤ prefix_len is_ascii_digit xs → get_or xs k 0 ≡ 32 → before 32 xs ≡ k
no_space_yet xs k is space =
    let le = digits_before_space xs in
    ⊎_elim (λ (lt : k < before 32 xs). absurd (eqb-false _ 32 (fails_before_first (λ x. x == 32) xs k 0 lt) space)) (λ (ge : before 32 xs ≤ k). omega arith) (cases_lt k (before 32 xs))

front_of_rest : (xs : List ℕ) (k : ℕ) → get_or (drop k xs) 0 0 ≡ get_or xs k 0
front_of_rest xs k = get_or-drop k xs 0 0 ∙ ap (λ n. get_or xs n 0) (add-zero k)

-- the digits are the first field, where a space or nothing comes after them
digits_first : (xs more : List ℕ) (k : ℕ) (rest : Option (Bor (List ℕ))) → k ≤ prefix_len is_ascii_digit xs → more ≡ drop k xs → PastSpace more (Ok rest) → fields xs ≡ take k xs ∷ left (record { rest = rest })
digits_first xs more k None is back none =
    let end : before 32 xs ≡ k = omega (arith, digits_before_space xs, prefix_len-le-length (λ x. not (x == 32)) xs, length-drop k xs, ap length back, ap length none) in
    let later = ap later_fields (sym back ∙ none) in
    let first = first_field xs in
    cc
digits_first xs more k (Some rest) is back some =
    let end = no_space_yet xs k is (sym (front_of_rest xs k) ∙ ap (λ ys. get_or ys 0 0) (sym back ∙ some)) in
    let later = ap later_fields (sym back ∙ some) in
    let first = first_field xs in
    cc

no_numeral : (ds : List ℕ) → list_all is_ascii_digit ds ≡ false → numeral ds ≡ false
no_numeral ds other = grind (arith, nat_tests)

after_digits : (xs : List ℕ) (k : ℕ) → k ≡ prefix_len is_ascii_digit xs → k < length xs → get_or xs k 0 ≢ 32 → k < before 32 xs
after_digits xs k is lt other =
    ⊎_elim (λ (less : k < before 32 xs). less) (λ (ge : before 32 xs ≤ k).
    let end : before 32 xs ≡ k = omega (arith, digits_before_space xs) in
    let space = passes_at_first (λ x. x == 32) xs 0 (omega arith) in
    absurd (other (rw end at (eqb-true _ 32 space)))) (cases_lt k (before 32 xs))

after_all_digits : (xs more : List ℕ) (k : ℕ) (e : Refusal) → k ≡ prefix_len is_ascii_digit xs → more ≡ drop k xs → PastSpace more (Err e) → LedByNone (fields xs)
after_all_digits xs more k e is back other =
    let end = before 32 xs in
    let lt : k < length xs = omega (arith, other.0, length-drop k xs, ap length back) in
    let after = after_digits xs k is lt (λ space. other.1 (ap (λ ys. get_or ys 0 0) back ∙ front_of_rest xs k ∙ space)) in
    let within : k < length (take end xs) = omega (arith, length-take end xs) in
    let stops : is_ascii_digit (get_or xs k 0) ≡ false = rw is (prefix_len_stops is_ascii_digit xs 0 (omega arith)) in
    let not_all = list_all_at is_ascii_digit (take end xs) k 0 within (ap is_ascii_digit (get_or-take end xs k 0 after) ∙ stops) in
    rw first_field (no_numeral (take end xs) not_all)

zero_led : (y : ℕ) (xs : List ℕ) → y ≢ 32 → LedByNone (fields (48 ∷ y ∷ xs))
zero_led y xs ne = rw (ne_eqb y 32 ne, first_field xs) (grind (arith, nat_tests))

after_zero : (xs more : List ℕ) (e : Refusal) → get_or xs 0 0 ≡ 48 → more ≡ drop 1 xs → PastSpace more (Err e) → LedByNone (fields xs)
after_zero [] more e is back other = absurd (omega arith)
after_zero (x ∷ []) more e is back other = absurd (omega (arith, other.0, ap length back))
after_zero (x ∷ y ∷ xs) more e is back other = rw is (zero_led y xs (λ space. other.1 (ap (λ ys. get_or ys 0 0) back ∙ space)))

-- else the first field is no numeral
pub other_after : (xs more : List ℕ) (n : ℕ) (e : Refusal) → FrontNumeral xs n more → PastSpace more (Err e) → LedByNone (fields xs)
other_after xs more n e front other =
    ⊎_elim
    (λ zero. after_zero xs more e zero.1 (front.rest ∙ ap (λ i. drop i xs) zero.0) other)
    (λ all. after_all_digits xs more front.count e all front.rest other)
    front.whole

other_led : (x : ℕ) (xs : List ℕ) → is_ascii_digit x ≡ false → LedByNone (fields (x ∷ xs))
other_led x xs none =
    ⊎_elim
    (λ (space : x ≡ 32). rw space refl)
    (λ (ne : x ≢ 32). rw (ne_eqb x 32 ne, first_field xs) (no_numeral (x ∷ take (before 32 xs) xs) (rw none refl)))
    (cases_eq x 32)

-- nor is it one where no digit stands in front
pub no_digit : (xs : List ℕ) → prefix_len is_ascii_digit xs ≡ 0 → LedByNone (fields xs)
no_digit [] none = refl
no_digit (x ∷ xs) none = other_led x xs (⊎_elim (λ (yes : is_ascii_digit x ≡ true). absurd (omega (arith, rw yes at none))) (λ (other : is_ascii_digit x ≡ false). other) (cases_Bool (is_ascii_digit x)))

zero_within : (xs : List ℕ) → get_or xs 0 0 ≡ 48 → 1 ≤ prefix_len is_ascii_digit xs
zero_within [] is = absurd (omega arith)
zero_within (x ∷ xs) is = rw is (omega arith)

digits_within : (xs more : List ℕ) (n : ℕ) (front : FrontNumeral xs n more) → front.count ≤ prefix_len is_ascii_digit xs
digits_within xs more n front = ⊎_elim (λ zero. omega (arith, zero.0, zero_within xs zero.1)) (λ all. omega (arith, all)) front.whole

-- a numeral, and a space or nothing after it
pub led_by_number : (xs more : List ℕ) (n : ℕ) (rest : Option (Bor (List ℕ))) → FrontNumeral xs n more → PastSpace more (Ok rest) → LedByNumber (fields xs) n (left (record { rest = rest }))
led_by_number xs more n rest front past = record {
  field = take front.count xs;
  parts = digits_first xs more front.count rest (digits_within xs more n front) front.rest past;
  is = front.is;
  says = front.says;
}

pub front_zero : (xs : List ℕ) → FrontNumeral (48 ∷ xs) 0 xs
front_zero xs = record { count = 1; is = refl; says = refl; rest = refl; whole = inl (refl, refl) }

-- a digit other than 0 and all digits after it
pub front_numeral : (x : ℕ) (xs more : List ℕ) (n : ℕ) → is_ascii_digit x ≡ true → x ≢ 48 → n ≡ min (value_after (x - 48) (take (prefix_len is_ascii_digit xs) xs)) 4294967296 → more ≡ drop (prefix_len is_ascii_digit xs) xs → FrontNumeral (x ∷ xs) n more
front_numeral x xs more n digit ne says rest =
    let k = prefix_len is_ascii_digit xs in
    let all = all_in_front is_ascii_digit xs in
    let zero : x - 48 ≡ 0 + (x - 48) = omega arith in
    record {
      count = suc k;
      is = grind (arith, nat_tests, common_steps);
      says = says ∙ ap (λ m. min (value_after m (take k xs)) 4294967296) zero;
      rest = rest;
      whole = inr (rw digit (omega arith));
    }
