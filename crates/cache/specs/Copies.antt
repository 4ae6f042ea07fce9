-- Which tasks hold a copy of a cell: a mask, whose bit t - 1 stands for task t, for each of the seven cells.
use Rattle.std.specs.Prelude.{◌≡◌, ℕ, cond, List, Ok, Err, MatchBool, Result, nat_lt, slice_index, slice_set}
use Rattle.memory.specs.declared.refusal.Refusal.{Refusal}
use Rattle.memory.specs.declared.refusal.Refusal.TheVariants.{Cell}
use Rattle.memory.specs.declared.operation.Operation.{Operation}
use Rattle.memory.specs.declared.operation.Operation.TheVariants.{Read, Write, Add, Swap}
use Rattle.memory.specs.Calls.{Doing}
use Rattle.sets.specs.Sets.{holds, joined, count_to}

-- the memory below does the operation, and nobody holds a copy of its cell any more
abbrev pub Empties : {S : Type 0} → Doing S → S → List ℕ → ℕ → Operation → ℕ → ℕ → S → List ℕ → Type 0
Empties does s masks task op c share t masks' = does s task op share t × (masks' ≡ slice_set masks c 0)

-- what the cache layer does over a memory: a holder reads for nothing, any other reader pays and becomes a holder,
-- and each of the other operations, a swap that says no among them, empties the set
abbrev pub Cached : {S : Type 0} → Doing S → S → List ℕ → ℕ → Operation → ℕ → S → List ℕ → Type 0
Cached does s masks task (Read c) share t masks' =
    MatchBool (holds (slice_index masks c) task)
    ((share ≡ 0) × (t ≡ s) × (masks' ≡ masks))
    (does s task (Read c) share t × (masks' ≡ slice_set masks c (joined (slice_index masks c) task)))
Cached does s masks task (Write c n) share t masks' = Empties does s masks task (Write c n) c share t masks'
Cached does s masks task (Add c p) share t masks' = Empties does s masks task (Add c p) c share t masks'
Cached does s masks task (Swap c e n) share t masks' = Empties does s masks task (Swap c e n) c share t masks'

-- how many tasks hold a copy of a cell
abbrev pub copies_counted : List ℕ → ℕ → Result ℕ Refusal
copies_counted masks c = cond (nat_lt c 7) (Ok (count_to 64 (slice_index masks c))) (Err Cell)
