-- The task that questions and records give.
use Rattle.std.specs.Prelude.{◌≡◌, ℕ, ◌-◌, ◌≤◌, true, false, ◌&&◌, List, length, Some, None, Ok, Err, Option, Result, nat_le, slice_set}
use Rattle.memory.specs.declared.interface.Memory.{Ghosts as MemoryGhosts}
use Rattle.queue.specs.declared.interface.Queue.{Ghosts as QueueGhosts}
use Rattle.lines.specs.declared.place.Right.{Right}
use Rattle.lines.specs.Rights.{right_of}
use Rattle.calls.specs.declared.record.Record.{Record}
use Rattle.calls.specs.declared.refusal.Refusal.{Refusal}
use Rattle.calls.specs.Questions.{out_for, pass_refusal, take_refusal, task_refusal}
use Rattle.calls.specs.Records.{settled, with_out}
use Rattle.calls.specs.Steps.{Verdict, line}
use Rattle.lock.specs.declared.deeds.Told.{Told}
use Rattle.lock.specs.declared.locks.Lock.{Lock}
use Rattle.lock.specs.declared.task.Task.{Task}
use Rattle.lock.specs.declared.task.ReadyTask.{ReadyTask}
use Rattle.lock.specs.View.{record_at, records_of, view}

-- task t of these, if there is one
abbrev pub Among : List Record → ℕ → Option Task → Type 0
Among rs t (Some k) = (1 ≤ t) × (t ≤ length rs) × (k.number ≡ t) × (k.state ≡ record_at rs t)
Among rs t None = (nat_le 1 t && nat_le t (length rs)) ≡ false

-- questions were asked, and the task with the number t and the record r is given; P is then known
abbrev pub Given : Option Refusal → ℕ → Record → Result Task Refusal → Type 0 → Type 0
Given o t r (Ok k) P = (o ≡ None) × (k.number ≡ t) × (k.state ≡ r) × P
Given o t r (Err e) P = o ≡ Some e

-- the same for a task that is ready
abbrev pub Readied : Option Refusal → ℕ → Record → Result ReadyTask Refusal → Type 0
Readied o t r (Ok k) = (o ≡ None) × (k.task.number ≡ t) × (k.task.state ≡ r)
Readied o t r (Err e) = o ≡ Some e

-- the verdict that a ready task does its next line
abbrev pub ready_line : ReadyTask → Verdict
ready_line k = line k.task.number k.task.state

-- the records once task t did its next line, of which this was told
abbrev pub with_settled : List Record → ℕ → Told → List Record
with_settled rs t told = slice_set rs (t - 1) (settled (record_at rs t) told.found told.share)

-- a pass for the right w goes out to the task k, unless a question on that is answered no
abbrev pub HandsOut : Task → Right → Result Task Refusal → Type 0
HandsOut k w r = Given (take_refusal (right_of k.state.track) k.state.out w) k.number (with_out k.state (Some w)) r (Unit {0})

module _ {M Q : Type 0} (mem : MemoryGhosts M) (que : QueueGhosts Q) where
  -- the questions on task t of the lock l give the task, which is then one of those of l
  abbrev pub Finds : Lock M Q → ℕ → Result Task Refusal → Type 0
  Finds l t r = Given (task_refusal (view mem que l) t) t (record_at (records_of l.records) t) r (t ≤ length (records_of l.records))

  -- the questions on a pass for the right w, of lock k and task t, give the task, which is then one of those of l, with this pass out
  abbrev pub FindsHolder : Lock M Q → Right → ℕ → ℕ → Result Task Refusal → Type 0
  FindsHolder l w k t r =
      let x = record_at (records_of l.records) t in
      Given (pass_refusal (view mem que l) w k t) t x r ((t ≤ length (records_of l.records)) × (out_for x.out w ≡ true))
