-- The published number of each refusal.
use Rattle.std.specs.Prelude.{ℕ}
use Rattle.listing.specs.declared.refusal.Refusal.{Refusal}
use Rattle.listing.specs.declared.refusal.Refusal.TheVariants.{Room}

abbrev pub refusal_number : Refusal → ℕ
refusal_number Room = 39
