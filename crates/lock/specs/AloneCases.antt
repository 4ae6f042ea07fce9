-- Cases of one task alone, worked out to the unit: cells, places and costs.
use Rattle.std.specs.Prelude.{◌≡◌, [], ◌∷◌, ◌++◌}
use Rattle.memory.specs.declared.interface.Memory.{Ghosts}
use Rattle.lines.specs.declared.place.Place.TheVariants.{Inside, Rest}
use Rattle.lines.specs.declared.place.Right.TheVariants.{Reading, Writing}
use Rattle.lines.specs.declared.place.Standing.TheVariants.{Downgraded, Normal, Upgraded}
use Rattle.lock.specs.Cases.{Comes, R, Stands, W, advances, downgrades, leaves_with, reader_in, unmeasured, upgrades, writer_in}

-- the cells are C, D, Gate, X, Permit, U and V
pub record AloneCases {B : Type 0} (mem : Ghosts B) : Type 0 where
  pub opened : Comes mem unmeasured (R ∷ []) [] (λ z. z.cells ≡ 0 ∷ 0 ∷ 0 ∷ 1 ∷ 1 ∷ 0 ∷ 0 ∷ [])
  pub reader : Comes mem unmeasured (R ∷ []) (reader_in 1) (λ z. Stands z 1 Inside Normal 7)
  pub reader_leaves :
      Comes mem unmeasured (R ∷ []) (reader_in 1 ++ leaves_with Reading 1 ++ advances 4 1)
      (λ z. Stands z 1 Rest Normal 10 × (z.cells ≡ 0 ∷ 0 ∷ 0 ∷ 1 ∷ 1 ∷ 0 ∷ 0 ∷ []))
  pub upgraded :
      Comes mem unmeasured (R ∷ []) (reader_in 1 ++ upgrades 1 ++ advances 4 1)
      (λ z. Stands z 1 Inside Upgraded 11 × (z.cells ≡ 1 ∷ 0 ∷ 0 ∷ 1 ∷ 1 ∷ 2 ∷ 1 ∷ []))
  pub upgraded_leaves :
      Comes mem unmeasured (R ∷ []) (reader_in 1 ++ upgrades 1 ++ advances 4 1 ++ leaves_with Writing 1 ++ advances 6 1)
      (λ z. Stands z 1 Rest Normal 16 × (z.cells ≡ 0 ∷ 0 ∷ 0 ∷ 1 ∷ 1 ∷ 0 ∷ 0 ∷ []))
  pub writer :
      Comes mem unmeasured (R ∷ W ∷ []) (writer_in 2)
      (λ z. Stands z 2 Inside Normal 10 × (z.cells ≡ 0 ∷ 1 ∷ 0 ∷ 0 ∷ 1 ∷ 0 ∷ 0 ∷ []))
  -- lines 7, 8 and 32.1
  pub writer_leaves :
      Comes mem unmeasured (R ∷ W ∷ []) (writer_in 2 ++ leaves_with Writing 2 ++ advances 2 2)
      (λ z. Stands z 2 Rest Normal 12 × (z.cells ≡ 0 ∷ 1 ∷ 1 ∷ 2 ∷ 1 ∷ 0 ∷ 0 ∷ []))
  pub downgraded :
      Comes mem unmeasured (R ∷ W ∷ []) (writer_in 2 ++ downgrades 2 ++ advances 2 2)
      (λ z. Stands z 2 Inside Downgraded 13 × (z.cells ≡ 1 ∷ 1 ∷ 1 ∷ 2 ∷ 1 ∷ 0 ∷ 0 ∷ []))
  pub downgraded_leaves :
      Comes mem unmeasured (R ∷ W ∷ []) (writer_in 2 ++ downgrades 2 ++ advances 2 2 ++ leaves_with Reading 2 ++ advances 1 2)
      (λ z. Stands z 2 Rest Normal 14 × (z.cells ≡ 0 ∷ 1 ∷ 1 ∷ 2 ∷ 1 ∷ 0 ∷ 0 ∷ []))
