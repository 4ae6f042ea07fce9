-- The meaning of the cache layer over the meaning of a memory.
use Rattle.cache.specs.declared.layer.Cache.{Cache}
use Rattle.memory.specs.declared.interface.Memory.{Ghosts}
use Rattle.cache.specs.Copies.{Cached}

abbrev pub cached : {B : Type 0} → Ghosts B → Ghosts (Cache B)
cached mem = record {
  LIMIT = mem.LIMIT;
  limit = mem.limit;
  cells = λ s. mem.cells s.below;
  top = λ s. mem.top s.below;
  does = λ s task op share t. Cached mem.does s.below s.copies.masks task op share t.below t.copies.masks;
}
