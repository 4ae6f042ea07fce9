-- What a call of a queue answers and leaves, over any queue's list of waiting tasks.
use Rattle.std.specs.Prelude.{◌≡◌, ℕ, Bool, cond, List, [], ◌∷◌, ◌++◌, Some, None, Ok, Err, Option, Result, nat_le}
use Rattle.queue.specs.declared.refusal.Refusal.{Refusal}
use Rattle.queue.specs.declared.refusal.Refusal.TheVariants.{Task, Waiting, NotOldest}
use Rattle.queue.specs.Waiting.{waits, oldest, rest}

-- the first question that is answered no gives the refusal
abbrev pub ask : Bool → Refusal → Option Refusal → Option Refusal
ask b e others = cond b others (Some e)

abbrev pub task_refusal : ℕ → Option Refusal → Option Refusal
task_refusal t others = ask (nat_le 1 t) Task (ask (nat_le t 64) Task others)

abbrev pub join_refusal : List ℕ → ℕ → Option Refusal
join_refusal ws t = task_refusal t (cond (waits ws t) (Some Waiting) None)

abbrev pub quit_refusal : List ℕ → ℕ → Option Refusal
quit_refusal ws t = task_refusal t (ask (oldest ws t) NotOldest None)

abbrev pub first_refusal : ℕ → Option Refusal
first_refusal t = task_refusal t None

-- whether a task is the oldest, or the refusal
abbrev pub first_told : List ℕ → ℕ → Result Bool Refusal
first_told ws t = cond (nat_le 1 t) (cond (nat_le t 64) (Ok (oldest ws t)) (Err Task)) (Err Task)

-- a call takes the queue from s to t: either no question is answered no and the list is then ws,
-- or the first that is gives the refusal and the list is as it was
abbrev pub Called : {S : Type 0} → (S → List ℕ) → S → S → Option Refusal → List ℕ → Result (Unit {0}) Refusal → Type 0
Called waiting s t refusal ws (Ok _) = (refusal ≡ None) × (waiting t ≡ ws)
Called waiting s t refusal ws (Err e) = (refusal ≡ Some e) × (waiting t ≡ waiting s)

-- join, and quit, of task t take the queue from s to z: the task is then the last, or the oldest is gone

abbrev pub Joins : {S : Type 0} → (S → List ℕ) → S → ℕ → Result (Unit {0}) Refusal → S → Type 0
Joins waiting s t r z = Called waiting s z (join_refusal (waiting s) t) (waiting s ++ t ∷ []) r

abbrev pub Quits : {S : Type 0} → (S → List ℕ) → S → ℕ → Result (Unit {0}) Refusal → S → Type 0
Quits waiting s t r z = Called waiting s z (quit_refusal (waiting s) t) (rest (waiting s)) r
