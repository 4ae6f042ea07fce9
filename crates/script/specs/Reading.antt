-- Reading an input line by line: the lines from a place on, and those that a reader has still to hand out.
use Rattle.std.specs.Prelude.{◌≡◌, ℕ, ◌+◌, ◌<◌, ◌≤◌, cond, List, [], ◌∷◌, length, drop, Some, None, Ok, Err, Option, Result, nat_le}
use Rattle.std.specs.Borrow.{Bor}
use Rattle.script.specs.declared.reader.Reader.{Reader}
use Rattle.script.specs.declared.refusal.Refusal.{Refusal}
use Rattle.script.specs.declared.refusal.Refusal.TheVariants as why
use Rattle.script.specs.Cuts.{lines}

-- an input has at most 65,536 bytes
abbrev pub fitting : List ℕ → Result (Unit {0}) Refusal
fitting s = cond (nat_le (length s) 65536) (Ok tt) (Err why.Length)

-- the line l of s begins at the place `at`, and the next one at `next`
pub record Begins (s : List ℕ) (at : ℕ) (l : List ℕ) (next : ℕ) : Type 0 where
  pub first : lines (drop at s) ≡ l ∷ lines (drop next s)
  pub on : at < next
  pub within : next ≤ length s
  pub short : length l ≤ length s

-- the same, or no line begins there
abbrev pub LineAt : List ℕ → ℕ → Option (Bor (List ℕ) × ℕ) → Type 0
LineAt s at None = lines (drop at s) ≡ []
LineAt s at (Some p) = Begins s at p.0.now p.1

abbrev pub to_come : Reader → List (List ℕ)
to_come s = lines (drop s.at s.input.now)

-- the reader s handed out its first line, l, which left it as t
pub record GaveLine (s : Reader) (l : List ℕ) (t : Reader) : Type 0 where
  pub first : to_come s ≡ l ∷ to_come t
  pub counted : t.number ≡ s.number + 1
  pub same_input : t.input.now ≡ s.input.now
  pub short : length l ≤ length s.input.now

-- the same, or s has no line left, and stays as it is
abbrev pub Handed : Reader → Option (Bor (List ℕ)) → Reader → Type 0
Handed s None t = (to_come s ≡ []) × (t ≡ s)
Handed s (Some l) t = GaveLine s l.now t
