-- The state of a lock as its calls see it. The memory is seen by its cells and the queue by its list.
use Rattle.std.specs.Prelude.{ℕ, ◌-◌, Bool, List, slice_index_or, slice_set}
use Rattle.lines.specs.declared.place.Role.TheVariants.{Reader}
use Rattle.calls.specs.declared.record.Record.{Record}
use Rattle.calls.specs.Records.{fresh}

pub record State : Type 0 where
  -- the lock number
  pub number : ℕ
  pub opened : Bool
  -- C, D, Gate, X, Permit, U, V
  pub cells : List ℕ
  -- the waiting writers, oldest first
  pub waiting : List ℕ
  -- the record of task 1 first, one for each task of an opened lock
  pub records : List Record
  -- the rows of the wall table
  pub table : List ℕ

-- the record of task t
abbrev pub record_of : State → ℕ → Record
record_of s t = slice_index_or s.records (t - 1) (fresh Reader)

-- the state with another record of task t
abbrev pub with_record : State → ℕ → Record → State
with_record s t r = record { number = s.number; opened = s.opened; cells = s.cells; waiting = s.waiting; records = slice_set s.records (t - 1) r; table = s.table }

-- the state with another number in a row
abbrev pub with_row : State → ℕ → ℕ → State
with_row s row n = record { number = s.number; opened = s.opened; cells = s.cells; waiting = s.waiting; records = s.records; table = slice_set s.table row n }
