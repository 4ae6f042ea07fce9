-- The calls on a row of the table, what a run leaves in one, and what a read answers by it.
use Rattle.std.specs.Prelude.{◌≡◌, ℕ, ◌<◌, ◌≤◌, cond, ◌&&◌, List, [], ◌∷◌, Some, None, ◌==◌, ◌↔◌}
use Rattle.lines.specs.declared.place.Right.{Right}
use Rattle.calls.specs.Steps.{Answer, Call, gives, put, read}
use Rattle.lock.specs.declared.pass.Pass.{Pass}
use Rattle.lock.specs.Needs.{IsRefused}
use Rattle.lock.specs.Runs.{Made, was_obeyed}

-- the calls on a row by those who show a pass: for the right w, or for writing

abbrev pub read_showing : {R : Type 0} → Right → Pass R → ℕ → Call
read_showing w p row = read w p.lock p.task row

abbrev pub put_showing : {R : Type 0} → Pass R → ℕ → ℕ → Call
put_showing p row thickness = put p.lock p.task row thickness

-- a call leaves in a row what stood there, but for an obeyed put into it
abbrev pub left_in : ℕ → Call → Answer → ℕ → ℕ
left_in row (put k t r number) a v = cond (was_obeyed a && (r == row)) number v
left_in row c a v = v

-- the number last put into a row by these calls, or v if none was
abbrev pub last_put : ℕ → List Made → ℕ → ℕ
last_put row [] v = v
last_put row (e ∷ es) v = last_put row es (left_in row e.call e.answer v)

-- v is a lawful thickness, and is the number n
pub record IsMeasured (n v : ℕ) : Type 0 where
  pub some : 1 ≤ v
  pub few : v ≤ 1000000
  pub same : v ≡ n

-- What a read answers where n was last put: a thickness from 1 to 1000000, and then n itself; that nobody measured the rib, exactly
-- at 0; and that the row is damaged, exactly above 1000000.
pub record Reads (n : ℕ) (a : Answer) : Type 0 where
  pub thickness : (v : ℕ) → a ≡ gives (Some v) → IsMeasured n v
  pub measured : 1 ≤ n → n ≤ 1000000 → a ≡ gives (Some n)
  pub unmeasured : a ≡ gives None ↔ n ≡ 0
  pub damaged : IsRefused a 32 ↔ 1000000 < n

-- an answer of the row: a thickness, absence, or that the row is damaged; so none of the read's other questions was answered no
abbrev pub IsOfRow : Answer → Type 0
IsOfRow (gives o) = Unit {0}
IsOfRow a = IsRefused a 32
