-- The published number of each refusal.
use Rattle.std.specs.Prelude.{ℕ}
use Rattle.script.specs.declared.refusal.Refusal.{Refusal}
use Rattle.script.specs.declared.refusal.Refusal.TheVariants.{Letter, Fields, Number, Length}

abbrev pub refusal_number : Refusal → ℕ
refusal_number Letter = 40
refusal_number Fields = 41
refusal_number Number = 42
refusal_number Length = 43
