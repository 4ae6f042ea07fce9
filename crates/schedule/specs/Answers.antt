-- What a lock tells of a call of a schedule: the number of tasks for O, else the task's place and cost, and for R the row.
use Rattle.std.specs.Prelude.{◌≡◌, ℕ, List, length, Some, None, Ok, Err, Option, Result}
use Rattle.cache.specs.declared.layer.Cache.{Cache}
use Rattle.memory.specs.declared.interface.Memory.{Ghosts as MemoryGhosts}
use Rattle.queue.specs.declared.interface.Queue.{Ghosts as QueueGhosts}
use Rattle.lines.specs.declared.place.Place.{Place}
use Rattle.lines.specs.declared.place.Place.TheVariants.{Rest, Inside, Next}
use Rattle.lines.specs.declared.place.Right.{Right}
use Rattle.lines.specs.declared.place.Right.TheVariants.{Reading, Writing}
use Rattle.lines.specs.Numbers.{tenfold}
use Rattle.lines.specs.Rights.{right_of}
use Rattle.calls.specs.declared.refusal.Refusal.{Refusal}
use Rattle.calls.specs.Questions.{task_refusal}
use Rattle.calls.specs.States.{State, record_of}
use Rattle.calls.specs.Steps as calls
use Rattle.calls.specs.Told.{right_told}
use Rattle.lock.specs.declared.locks.Lock.{Lock}
use Rattle.lock.specs.ByTask.{Plan, downgrade_plan, leave_plan, once, put_plan, read_plan, upgrade_plan}
use Rattle.lock.specs.Counted.{Counted}
use Rattle.lock.specs.Exact.{exact_opening, followed, seen}
use Rattle.script.specs.Calls.{Ask, opening, begin, advance, upgrade, downgrade, leave, read, put}
use Rattle.listing.specs.declared.answer.Place.{Place as Shown}
use Rattle.listing.specs.declared.answer.Place.TheVariants as shown
use Rattle.listing.specs.declared.answer.Answer.{Answer}
use Rattle.listing.specs.declared.answer.Answer.TheVariants.{Moved, Opened, Row}
use Rattle.schedule.specs.declared.answers.Done.{Done}
use Rattle.schedule.specs.declared.answers.Done.TheVariants as done

-- r and w tell the right, a line its number; a task without a right and a line is at rest
abbrev pub place_shown : Place → Option Right → Shown
place_shown p (Some Reading) = shown.Reading
place_shown p (Some Writing) = shown.Writing
place_shown Rest None = shown.Rest
place_shown Inside None = shown.Rest
place_shown (Next l) None = shown.At (tenfold l)

-- the place and the cost of a task
abbrev pub task_shown : State → ℕ → Answer
task_shown s t = Moved (place_shown (record_of s t).track.place (right_of (record_of s t).track)) (record_of s t).account.cost

-- the same, and what a row gave
abbrev pub row_shown : State → ℕ → Option ℕ → Answer
row_shown s t row = Row (place_shown (record_of s t).track.place (right_of (record_of s t).track)) (record_of s t).account.cost row

-- what is told of task t where this was answered, and the state is then so
abbrev pub answered : calls.Answer → State → ℕ → Result Answer Refusal
answered calls.done s t = Ok (task_shown s t)
answered (calls.hands w k u) s t = Ok (task_shown s t)
answered (calls.gives row) s t = Ok (row_shown s t row)
answered (calls.no e) s t = Err e

-- an opening to so many tasks
abbrev pub opening_told : ℕ → Result (Unit {0}) Refusal → Result Answer Refusal
opening_told n (Ok _) = Ok (Opened n)
opening_told n (Err e) = Err e

abbrev pub opened_told : Result ℕ Refusal → Result Answer Refusal
opened_told (Ok n) = Ok (Opened n)
opened_told (Err e) = Err e

-- What a lock tells, where each operation of its memory costs 1, and its state and copies then: of an opening, of a plan of task t, and
-- of a call of a schedule. This is all that a letter does.

abbrev pub opened : ℕ → List ℕ → Counted → Result Answer Refusal × Counted
opened limit roles x = let r = exact_opening limit roles x in (opening_told (length roles) r.0, r.1)

abbrev pub planned : ℕ → ℕ → Plan → Counted → Result Answer Refusal × Counted
planned limit t p x = let r = followed limit p x in (answered r.0 r.1.state t, r.1)

abbrev pub tell : ℕ → Ask → Counted → Result Answer Refusal × Counted
tell limit (opening m q roles) x = opened limit roles x
tell limit (begin t) x = planned limit t (once (calls.begin t)) x
tell limit (advance t) x = planned limit t (once (calls.advance t)) x
tell limit (upgrade t) x = planned limit t (upgrade_plan t) x
tell limit (downgrade t) x = planned limit t (downgrade_plan t) x
tell limit (leave t) x = planned limit t (leave_plan (right_told x.state t) t) x
tell limit (read t row) x = planned limit t (read_plan (right_told x.state t) t row) x
tell limit (put t row n) x = planned limit t (put_plan t row n) x

module _ {B Q : Type 0} (mem : MemoryGhosts B) (que : QueueGhosts Q) (limit : ℕ) where
  -- a lock over the cache layer tells o of the call a and is then l', over the table that was lent
  abbrev pub Tells : Lock (Cache B) Q → Ask → Result Answer Refusal → Lock (Cache B) Q → Type 0
  Tells l a o l' = ◌≡◌ {A = Result Answer Refusal × Counted} (o, seen mem que l') (tell limit a (seen mem que l)) × (l'.table.ghost_name ≡ l.table.ghost_name)

-- What is told of an obeyed call once it is made.

abbrev pub done_shown : State → Done → Answer
done_shown s (done.Opened n) = Opened n
done_shown s (done.Moved t) = task_shown s t
done_shown s (done.Row t row) = row_shown s t row

abbrev pub done_told : Result Done Refusal → State → Result Answer Refusal
done_told (Ok d) s = Ok (done_shown s d)
done_told (Err e) s = Err e

-- the task of an obeyed call is there
abbrev pub IsThere : State → Result Done Refusal → Type 0
IsThere s (Ok (done.Opened n)) = Unit {0}
IsThere s (Ok (done.Moved t)) = task_refusal s t ≡ None
IsThere s (Ok (done.Row t row)) = task_refusal s t ≡ None
IsThere s (Err e) = Unit {0}

module _ {B Q : Type 0} (mem : MemoryGhosts B) (que : QueueGhosts Q) (limit : ℕ) where
  -- the call a is made, and this has to be told of it
  abbrev pub Makes : Lock (Cache B) Q → Ask → Result Done Refusal → Lock (Cache B) Q → Type 0
  Makes l a r l' = Tells mem que limit l a (done_told r (seen mem que l').state) l'

  -- the lock is opened to so many tasks
  abbrev pub Opens : Lock (Cache B) Q → List ℕ → Result ℕ Refusal → Lock (Cache B) Q → Type 0
  Opens l roles r l' = ◌≡◌ {A = Result Answer Refusal × Counted} (opened_told r, seen mem que l') (opened limit roles (seen mem que l)) × (l'.table.ghost_name ≡ l.table.ghost_name)
