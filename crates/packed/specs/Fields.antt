-- Seven fields of four bits in one number, the lowest first.
use Rattle.std.specs.Prelude.{ℕ, ◌*◌, ◌/◌, ◌%◌, ◌^◌, List, [], ◌∷◌}

abbrev pub field : ℕ → ℕ → ℕ
field bits i = bits / 2 ^ (4 * i) % 16

abbrev pub fields : ℕ → List ℕ
fields bits = field bits 0 ∷ field bits 1 ∷ field bits 2 ∷ field bits 3 ∷ field bits 4 ∷ field bits 5 ∷ field bits 6 ∷ []
