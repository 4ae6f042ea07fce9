-- The numbers that stand in a ring of 64 places: read from one place on, and behind
-- place 63 from place 0 on.
use Rattle.std.specs.Prelude.{ℕ, zero, suc, ◌+◌, ◌%◌, List, [], ◌∷◌, slice_index}

-- from place i on, n of them
abbrev pub round : List ℕ → ℕ → ℕ → List ℕ
round numbers i zero = []
round numbers i (suc n) = slice_index numbers i ∷ round numbers ((i + 1) % 64) n
