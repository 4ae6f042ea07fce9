-- What deeds cost to the unit, where the memory is the cache layer over one whose operations cost 1 each, and the copies that they leave.
use Rattle.std.specs.Prelude.{◌≡◌, ℕ, cond, List, slice_index, slice_set}
use Rattle.memory.specs.declared.operation.Operation.TheVariants.{Read}
use Rattle.memory.specs.declared.operation.Operation.{Operation}
use Rattle.memory.specs.Calls.{Doing}
use Rattle.memory.specs.Operations.{cell_of}
use Rattle.sets.specs.Sets.{holds, joined}
use Rattle.lines.specs.declared.deed.Deed.{Deed}
use Rattle.lines.specs.declared.deed.Deed.TheVariants.{Touch}
use Rattle.calls.specs.States.{State}

-- the masks of the copies after a deed of task t: a read that finds no copy leaves one, and any other operation leaves none of its cell
abbrev pub masks_after : Deed → ℕ → List ℕ → List ℕ
masks_after (Touch (Read c)) t masks = cond (holds (slice_index masks c) t) masks (slice_set masks c (joined (slice_index masks c) t))
masks_after (Touch op) t masks = slice_set masks (cell_of op) 0
masks_after d t masks = masks

-- what the deed costs: nothing for a holder's read and for a deed that touches no cell
abbrev pub unit_share : Deed → ℕ → List ℕ → ℕ
unit_share (Touch (Read c)) t masks = cond (holds (slice_index masks c) t) 0 1
unit_share (Touch op) t masks = 1
unit_share d t masks = 0

-- a lock's state and the copies of its tasks
pub record Counted : Type 0 where
  pub state : State
  pub masks : List ℕ

-- each operation of the memory costs 1
abbrev pub CostsOne : {S : Type 0} → Doing S → Type 0
CostsOne {S} does = (s t : S) (task : ℕ) (op : Operation) (share : ℕ) → does s task op share t → share ≡ 1
