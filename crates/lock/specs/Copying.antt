-- A memory that charges by copies, as the cache layer does over any memory.
use Rattle.std.specs.Prelude.{◌≡◌, ℕ, ◌*◌, ◌≤◌, List, length}
use Rattle.memory.specs.declared.interface.Memory.{Ghosts}
use Rattle.memory.specs.declared.operation.Operation.{Operation}
use Rattle.lines.specs.declared.deed.Deed.TheVariants.{Touch}
use Rattle.lock.specs.Counted.{masks_after, unit_share}

-- These masks say who holds a copy of each of the seven cells: a holder's read is free, any other operation costs at most the ceiling,
-- and the copies follow.
pub record ChargesByCopies {M : Type 0} (mem : Ghosts M) (masks : M → List ℕ) : Type 0 where
  pub seven : (m : M) → length (masks m) ≡ 7
  pub share : (m n : M) (t : ℕ) (op : Operation) (told : ℕ) → mem.does m t op told n → told ≤ mem.top m * unit_share (Touch op) t (masks m)
  pub copies : (m n : M) (t : ℕ) (op : Operation) (told : ℕ) → mem.does m t op told n → masks n ≡ masks_after (Touch op) t (masks m)
