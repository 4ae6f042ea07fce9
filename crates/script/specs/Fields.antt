-- The fields that are still to be read.
use Rattle.std.specs.Prelude.{◌≡◌, ◌≢◌, ℕ, ◌<◌, List, [], ◌∷◌, length, slice_index, Some, None, Option, Ok, Err, Result}
use Rattle.std.specs.Borrow.{Bor}
use Rattle.script.specs.declared.fields.Fields.{Fields}
use Rattle.script.specs.declared.refusal.Refusal.{Refusal}
use Rattle.script.specs.declared.refusal.Refusal.TheVariants as why
use Rattle.script.specs.Cuts.{fields}

abbrev pub left : Fields → List (List ℕ)
left f = elim f.rest [ None ↦ [] | Some t ↦ fields t.now ]

-- the fields fs are the one that was read and those that are left, gs; or there was none
abbrev pub Took : List (List ℕ) → Result (Bor (List ℕ)) Refusal → List (List ℕ) → Type 0
Took fs (Ok f) gs = fs ≡ f.now ∷ gs
Took fs (Err e) gs = (fs ≡ []) × (e ≡ why.Fields)

-- a space that begins the list was passed, or the list is empty, or begins with another byte
abbrev pub PastSpace : List ℕ → Result (Option (Bor (List ℕ))) Refusal → Type 0
PastSpace more (Ok None) = more ≡ []
PastSpace more (Ok (Some rest)) = more ≡ 32 ∷ rest.now
PastSpace more (Err e) = (0 < length more) × (slice_index more 0 ≢ 32) × (e ≡ why.Fields)

abbrev pub ended : List (List ℕ) → Result (Unit {0}) Refusal
ended [] = Ok tt
ended (f ∷ fs) = Err why.Fields
