-- The list of waiting tasks, oldest first.
use Rattle.std.specs.Prelude.{ℕ, Bool, true, false, cond, not, ◌&&◌, ◌||◌, List, [], ◌∷◌, Ok, Err, Result, ◌==◌, nat_le}
use Rattle.queue.specs.declared.refusal.Refusal.{Refusal}
use Rattle.queue.specs.declared.refusal.Refusal.TheVariants.{Task}

-- whether a task waits
abbrev pub waits : List ℕ → ℕ → Bool
waits [] t = false
waits (x ∷ xs) t = x == t || waits xs t

-- whether it is the oldest that waits
abbrev pub oldest : List ℕ → ℕ → Bool
oldest [] t = false
oldest (x ∷ xs) t = x == t

-- the list without the oldest
abbrev pub rest : List ℕ → List ℕ
rest [] = []
rest (x ∷ xs) = xs

-- whether a task can join: it is from 1 to 64, and does not wait yet
abbrev pub can_join : List ℕ → ℕ → Bool
can_join ws t = (nat_le 1 t && nat_le t 64) && not (waits ws t)

-- each number in the list is a task's, from 1 to 64, and none stands twice
abbrev pub lawful : List ℕ → Bool
lawful [] = true
lawful (x ∷ xs) = (nat_le 1 x && nat_le x 64) && (not (waits xs x) && lawful xs)

-- the question on the task alone
abbrev pub known_task : ℕ → Result (Unit {0}) Refusal
known_task t = cond (nat_le 1 t) (cond (nat_le t 64) (Ok tt) (Err Task)) (Err Task)
