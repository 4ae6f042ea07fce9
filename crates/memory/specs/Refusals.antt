-- The published number of each refusal.
use Rattle.std.specs.Prelude.{ℕ}
use Rattle.memory.specs.declared.refusal.Refusal.{Refusal}
use Rattle.memory.specs.declared.refusal.Refusal.TheVariants.{Task, Cell, Number, Sum}

abbrev pub refusal_number : Refusal → ℕ
refusal_number Task = 1
refusal_number Cell = 2
refusal_number Number = 3
refusal_number Sum = 4
