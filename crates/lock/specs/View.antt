-- The lock as its calls see it.
use Rattle.std.specs.Prelude.{◌≡◌, ℕ, ◌-◌, false, List, [], length, take, Option, Result, nat_lt, slice_index_or}
use Rattle.memory.specs.declared.interface.Memory.{Ghosts as MemoryGhosts}
use Rattle.queue.specs.declared.interface.Queue.{Ghosts as QueueGhosts}
use Rattle.lines.specs.declared.place.Role.TheVariants.{Reader}
use Rattle.calls.specs.declared.record.Record.{Record}
use Rattle.calls.specs.declared.refusal.Refusal.{Refusal}
use Rattle.calls.specs.Records.{fresh}
use Rattle.calls.specs.States.{State}
use Rattle.calls.specs.Steps.{Call, Answer, Verdict, Carried, judge}
use Rattle.calls.specs.Opening.{Opens, open_refusal}
use Rattle.lock.specs.declared.records.Records.{Records}
use Rattle.lock.specs.declared.locks.Lock.{Lock}

-- the records of the tasks
abbrev pub records_of : Records → List Record
records_of rs = take rs.count rs.all

abbrev pub record_at : List Record → ℕ → Record
record_at rs t = slice_index_or rs (t - 1) (fresh Reader)

module _ {M Q : Type 0} (mem : MemoryGhosts M) (que : QueueGhosts Q) where
  -- the state of a lock over this memory and this queue: one without tasks is closed
  abbrev pub view : Lock M Q → State
  view l = record { number = l.number; opened = nat_lt 0 (length (records_of l.records)); cells = mem.cells l.memory; waiting = que.waiting l.queue; records = records_of l.records; table = l.table.now }

  -- the verdict, carried out on the lock l, gives the answer and leaves the lock so, with the table that was lent
  abbrev pub CarriesOut : Verdict → Lock M Q → Answer → Lock M Q → Type 0
  CarriesOut v l a l' = Carried mem.does mem.limit v (view l) l.memory a (view l') l'.memory × (l'.table.ghost_name ≡ l.table.ghost_name)

  -- the call does
  abbrev pub Does : Call → Lock M Q → Answer → Lock M Q → Type 0
  Does c l a l' = CarriesOut (judge c (view l)) l a l'

  -- a closed lock over the memory m, the queue q and the lent table
  abbrev pub closed_over : ℕ → M → Q → List ℕ → State
  closed_over number m q rows = record { number = number; opened = false; cells = mem.cells m; waiting = que.waiting q; records = []; table = rows }

  -- why open refuses the roles
  abbrev pub open_refused : Lock M Q → List ℕ → Option Refusal
  open_refused l roles = open_refusal mem.limit (mem.top l.memory) (view l) roles

  -- open with these roles does
  abbrev pub Opened : Lock M Q → List ℕ → Result (Unit {0}) Refusal → Lock M Q → Type 0
  Opened l roles r l' = Opens mem.does (open_refused l roles) (view l) l.memory roles r (view l') l'.memory × (l'.table.ghost_name ≡ l.table.ghost_name)
