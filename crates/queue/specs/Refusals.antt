-- The published number of each refusal.
use Rattle.std.specs.Prelude.{ℕ}
use Rattle.queue.specs.declared.refusal.Refusal.{Refusal}
use Rattle.queue.specs.declared.refusal.Refusal.TheVariants.{Task, Waiting, NotOldest}

abbrev pub refusal_number : Refusal → ℕ
refusal_number Task = 1
refusal_number Waiting = 5
refusal_number NotOldest = 6
