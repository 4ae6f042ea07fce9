-- What a store makes of a number that is put into a cell.
use Rattle.std.specs.Prelude.{◌≡◌, ℕ, List, Some, None, Ok, Err, Option, Result, nat_le, nat_lt, slice_set}
use Rattle.memory.specs.declared.refusal.Refusal.{Refusal}
use Rattle.memory.specs.declared.refusal.Refusal.TheVariants.{Cell, Number}
use Rattle.memory.specs.Operations.{ask}

-- the first question that is answered no gives the refusal
abbrev pub set_refusal : ℕ → ℕ → ℕ → Option Refusal
set_refusal limit cell number = ask (nat_lt cell 7) Cell (ask (nat_le number limit) Number None)

-- either the store s takes the number into the cell, which makes it t, or it refuses it and is as it was
abbrev pub Stored : {S : Type 0} → ℕ → (S → List ℕ) → S → ℕ → ℕ → Result (Unit {0}) Refusal → S → Type 0
Stored limit numbers s cell number (Ok o) t = (set_refusal limit cell number ≡ None) × (numbers t ≡ slice_set (numbers s) cell number)
Stored limit numbers s cell number (Err e) t = (set_refusal limit cell number ≡ Some e) × (t ≡ s)
