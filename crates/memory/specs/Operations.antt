-- The four operations of a task on the seven cells: when one is refused, and what the cells are after it.
use Rattle.std.specs.Prelude.{ℕ, ◌+◌, ◌-◌, Bool, cond, List, Some, None, Option, ◌==◌, nat_le, nat_lt, slice_index, slice_set}
use Rattle.memory.specs.declared.refusal.Refusal.{Refusal}
use Rattle.memory.specs.declared.refusal.Refusal.TheVariants.{Task, Cell, Number, Sum}
use Rattle.memory.specs.declared.operation.Step.{Step}
use Rattle.memory.specs.declared.operation.Step.TheVariants.{Up, Down}
use Rattle.memory.specs.declared.operation.Operation.{Operation}
use Rattle.memory.specs.declared.operation.Operation.TheVariants.{Read, Write, Add, Swap}

abbrev pub cell_of : Operation → ℕ
cell_of (Read c) = c
cell_of (Write c n) = c
cell_of (Add c s) = c
cell_of (Swap c e n) = c

-- a number one up or one down
abbrev pub stepped : Step → ℕ → ℕ
stepped Up n = n + 1
stepped Down n = n - 1

-- the cells after an obeyed operation
abbrev pub after : Operation → List ℕ → List ℕ
after (Read c) xs = xs
after (Write c n) xs = slice_set xs c n
after (Add c s) xs = slice_set xs c (stepped s (slice_index xs c))
after (Swap c e n) xs = cond (slice_index xs c == e) (slice_set xs c n) xs

-- the first question that is answered no gives the refusal
abbrev pub ask : Bool → Refusal → Option Refusal → Option Refusal
ask b e others = cond b others (Some e)

-- the questions on the task and the cell
abbrev pub place_refusal : ℕ → ℕ → Option Refusal → Option Refusal
place_refusal task cell others = ask (nat_le 1 task) Task (ask (nat_le task 64) Task (ask (nat_lt cell 7) Cell others))

-- whether a step from n stays from 0 to the limit
abbrev pub stays : ℕ → Step → ℕ → Bool
stays limit Up n = nat_lt n limit
stays limit Down n = nat_lt 0 n

-- the number after a step from n, if it stays
abbrev pub step_taken : ℕ → Step → ℕ → Option ℕ
step_taken limit s n = cond (stays limit s n) (Some (stepped s n)) None

-- the questions on numbers
abbrev pub number_refusal : ℕ → Operation → List ℕ → Option Refusal
number_refusal limit (Read c) xs = None
number_refusal limit (Write c n) xs = ask (nat_le n limit) Number None
number_refusal limit (Add c s) xs = ask (stays limit s (slice_index xs c)) Sum None
number_refusal limit (Swap c e n) xs = ask (nat_le e limit) Number (ask (nat_le n limit) Number None)

-- the refusal of a task's operation on the cells xs, none where it is obeyed
abbrev pub refusal : ℕ → ℕ → Operation → List ℕ → Option Refusal
refusal limit task op xs = place_refusal task (cell_of op) (number_refusal limit op xs)
