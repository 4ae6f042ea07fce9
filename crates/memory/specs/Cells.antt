-- Seven cells in numbers.
use Rattle.std.specs.Prelude.{ℕ, List, [], ◌∷◌}

-- all at 0
abbrev pub zeros : List ℕ
zeros = 0 ∷ 0 ∷ 0 ∷ 0 ∷ 0 ∷ 0 ∷ 0 ∷ []
