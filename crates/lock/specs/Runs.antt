-- Runs: any calls, with any arguments, obeyed or refused, each on what those before it left. A pass is data here: its right, its
-- lock number and its task, whether or not it was ever handed out.
use Rattle.std.specs.Prelude.{◌≡◌, ℕ, Bool, true, false, List, [], ◌∷◌}
use Rattle.memory.specs.Calls.{Doing}
use Rattle.calls.specs.States.{State}
use Rattle.calls.specs.Steps.{Answer, Call, Calls, advance, begin, downgrade, lay_back, leave, no, put, read, take, upgrade}

-- a call that was made, and what it answered
pub record Made : Type 0 where
  pub call : Call
  pub answer : Answer

-- whether a call with this answer was obeyed
abbrev pub was_obeyed : Answer → Bool
was_obeyed (no e) = false
was_obeyed a = true

-- the task that a call is of
abbrev pub task_of : Call → ℕ
task_of (begin t) = t
task_of (advance t) = t
task_of (take w t) = t
task_of (lay_back w k t) = t
task_of (upgrade k t) = t
task_of (downgrade k t) = t
task_of (leave w k t) = t
task_of (read w k t row) = t
task_of (put k t row n) = t

module _ {M : Type 0} (does : Doing M) (limit : ℕ) where
  -- The calls take the state from s to z and the memory from m to n, each by the relation that its own contract names, and P holds
  -- of the state before them and after each.
  abbrev pub RunWhile : (P : State → Type 0) → List Made → State → M → State → M → Type 0
  RunWhile P [] s m z n = P s × (z ≡ s) × (n ≡ m)
  RunWhile P (e ∷ es) s m z n = P s × ((y : State) × (k : M) × Calls does limit e.call s m e.answer y k × RunWhile P es y k z n)

  abbrev pub Run : List Made → State → M → State → M → Type 0
  Run es s m z n = RunWhile (λ x. Unit {0}) es s m z n
