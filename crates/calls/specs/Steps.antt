-- The calls as one machine: from a state, a call and the share that the memory told, to the answer and the next state.
--
-- A call's questions come to a verdict: a refusal, one line of a task, or an answer at once. A line is one deed on the memory or the
-- queue; where that is refused below, the refusal is the answer and nothing changes.
use Rattle.std.specs.Prelude.{◌≡◌, ℕ, ◌-◌, cond, List, length, Some, None, Option, ◌==◌, nat_le, slice_index, slice_set}
use Rattle.memory.specs.declared.refusal.Refusal.{Refusal as MemoryRefusal}
use Rattle.memory.specs.Calls.{Doing}
use Rattle.memory.specs.Operations.{refusal}
use Rattle.queue.specs.declared.refusal.Refusal.{Refusal as QueueRefusal}
use Rattle.queue.specs.Calls.{join_refusal, quit_refusal, first_refusal}
use Rattle.lines.specs.declared.deed.Deed.{Deed}
use Rattle.lines.specs.declared.deed.Deed.TheVariants.{Touch, Join, First, Quit, Nothing}
use Rattle.lines.specs.declared.place.Right.{Right}
use Rattle.lines.specs.declared.place.Right.TheVariants.{Reading, Writing}
use Rattle.lines.specs.Rights.{right_of}
use Rattle.lines.specs.Deeds.{finds, cells_after, waiting_after}
use Rattle.lines.specs.Lines.{next_deed}
use Rattle.calls.specs.declared.refusal.Refusal.{Refusal}
use Rattle.calls.specs.declared.refusal.Refusal.TheVariants.{Memory, Queue, Stored}
use Rattle.calls.specs.declared.record.Record.{Record}
use Rattle.calls.specs.Records.{begun, upgrading, downgrading, leaving, settled, with_out}
use Rattle.calls.specs.States.{State, record_of, with_record, with_row}
use Rattle.calls.specs.Questions.{task_refusal, begin_refusal, advance_refusal, take_refusal, pass_refusal, upgrade_refusal, row_refusal, thickness_refusal}

-- a call with any arguments; a pass is the right, the lock number and the task that it bears
-- (upgrade takes a reading pass, downgrade and put a writing one)
pub data Call : Type 0 where
  begin : (task : ℕ) → Call
  advance : (task : ℕ) → Call
  take : (right : Right) (task : ℕ) → Call
  lay_back : (right : Right) (number task : ℕ) → Call
  upgrade : (number task : ℕ) → Call
  downgrade : (number task : ℕ) → Call
  leave : (right : Right) (number task : ℕ) → Call
  read : (right : Right) (number task row : ℕ) → Call
  put : (number task row thickness : ℕ) → Call

pub data Answer : Type 0 where
  done : Answer
  -- a pass
  hands : (right : Right) (number task : ℕ) → Answer
  -- a thickness, or absence
  gives : Option ℕ → Answer
  no : Refusal → Answer

-- what the questions come to: a refusal, the next line of a task, whose record is then so, or an answer and the state then
pub data Verdict : Type 0 where
  refuse : Refusal → Verdict
  line : (task : ℕ) → Record → Verdict
  at_once : Answer → State → Verdict

abbrev pub asked : Option Refusal → Verdict → Verdict
asked None v = v
asked (Some e) v = refuse e

-- a row's answer follows from its number: 0 is a rib that nobody has measured
abbrev pub row_answer : ℕ → Answer
row_answer n = cond (n == 0) (gives None) (cond (nat_le n 1000000) (gives (Some n)) (no Stored))

abbrev pub judge : Call → State → Verdict
judge (begin t) s = asked (task_refusal s t) (asked (begin_refusal (record_of s t)) (line t (begun (record_of s t))))
judge (advance t) s = asked (task_refusal s t) (asked (advance_refusal (record_of s t)) (line t (record_of s t)))
judge (take w t) s = asked (task_refusal s t) (asked (take_refusal (right_of (record_of s t).track) (record_of s t).out w) (at_once (hands w s.number t) (with_record s t (with_out (record_of s t) (Some w)))))
judge (lay_back w k t) s = asked (pass_refusal s w k t) (at_once done (with_record s t (with_out (record_of s t) None)))
judge (upgrade k t) s = asked (pass_refusal s Reading k t) (asked (upgrade_refusal (record_of s t)) (line t (upgrading (record_of s t))))
judge (downgrade k t) s = asked (pass_refusal s Writing k t) (line t (downgrading (record_of s t)))
judge (leave w k t) s = asked (pass_refusal s w k t) (line t (leaving (record_of s t)))
judge (read w k t row) s = asked (pass_refusal s w k t) (asked (row_refusal row (length s.table)) (at_once (row_answer (slice_index s.table row)) s))
judge (put k t row n) s = asked (pass_refusal s Writing k t) (asked (row_refusal row (length s.table)) (asked (thickness_refusal n) (at_once done (with_row s row n))))

abbrev pub by_memory : Option MemoryRefusal → Option Refusal
by_memory None = None
by_memory (Some e) = Some (Memory e)

abbrev pub by_queue : Option QueueRefusal → Option Refusal
by_queue None = None
by_queue (Some e) = Some (Queue e)

-- why the memory or the queue refuses a deed of task t
abbrev pub deed_refusal : ℕ → ℕ → Deed → List ℕ → List ℕ → Option Refusal
deed_refusal limit t (Touch op) cs ws = by_memory (refusal limit t op cs)
deed_refusal limit t Join cs ws = by_queue (join_refusal ws t)
deed_refusal limit t First cs ws = by_queue (first_refusal t)
deed_refusal limit t Quit cs ws = by_queue (quit_refusal ws t)
deed_refusal limit t Nothing cs ws = None

-- the state after task t did deed d as the next line of the record r, at this share
abbrev pub after_deed : ℕ → Record → Deed → ℕ → State → State
after_deed t r d share s =
    record {
      number = s.number;
      opened = s.opened;
      cells = cells_after d s.cells;
      waiting = waiting_after d t s.waiting;
      records = slice_set s.records (t - 1) (settled r (finds d t s.cells s.waiting) share);
      table = s.table;
    }

abbrev pub lined : Option Refusal → ℕ → Record → Deed → ℕ → State → Answer × State
lined None t r d share s = (done, after_deed t r d share s)
lined (Some e) t r d share s = (no e, s)

-- a verdict carried out on a memory with this limit
abbrev pub carry_out : ℕ → Verdict → ℕ → State → Answer × State
carry_out limit (refuse e) share s = (no e, s)
carry_out limit (at_once a z) share s = (a, z)
carry_out limit (line t r) share s = lined (deed_refusal limit t (next_deed t r.track) s.cells s.waiting) t r (next_deed t r.track) share s

-- The memory itself, which tells the shares. m is the memory before and n after.
module _ {M : Type 0} (does : Doing M) where
  -- the memory does its part of a deed; one that touches no cell has a share of 0
  abbrev pub Shares : M → ℕ → Deed → ℕ → M → Type 0
  Shares m t (Touch op) share n = does m t op share n
  Shares m t Join share n = (share ≡ 0) × (n ≡ m)
  Shares m t First share n = (share ≡ 0) × (n ≡ m)
  Shares m t Quit share n = (share ≡ 0) × (n ≡ m)
  Shares m t Nothing share n = (share ≡ 0) × (n ≡ m)

  abbrev pub LineShares : Option Refusal → M → ℕ → Deed → ℕ → M → Type 0
  LineShares None m t d share n = Shares m t d share n
  LineShares (Some e) m t d share n = (share ≡ 0) × (n ≡ m)

  abbrev pub VerdictShares : ℕ → Verdict → State → M → ℕ → M → Type 0
  VerdictShares limit (refuse e) s m share n = (share ≡ 0) × (n ≡ m)
  VerdictShares limit (at_once a z) s m share n = (share ≡ 0) × (n ≡ m)
  VerdictShares limit (line t r) s m share n = LineShares (deed_refusal limit t (next_deed t r.track) s.cells s.waiting) m t (next_deed t r.track) share n

  -- the verdict is carried out: some share was told, and answer, state and memory are what it makes of them
  abbrev pub Carried : ℕ → Verdict → State → M → Answer → State → M → Type 0
  Carried limit v s m a z n = (share : ℕ) × VerdictShares limit v s m share n × (a ≡ (carry_out limit v share s).0) × (z ≡ (carry_out limit v share s).1)

  -- the call gives the answer a and takes the state from s to z and the memory from m to n
  abbrev pub Calls : ℕ → Call → State → M → Answer → State → M → Type 0
  Calls limit c s m a z n = Carried limit (judge c s) s m a z n
