-- One deed done on a memory and a queue: what it found and told, and what it leaves.
use Rattle.std.specs.Prelude.{◌≡◌, ℕ, Some, None, Ok, Err, Result}
use Rattle.memory.specs.declared.operation.Operation.{Operation}
use Rattle.memory.specs.declared.interface.Memory.{Ghosts as MemoryGhosts}
use Rattle.memory.specs.Operations.{refusal, after}
use Rattle.queue.specs.declared.interface.Queue.{Ghosts as QueueGhosts}
use Rattle.lines.specs.declared.deed.Deed.{Deed}
use Rattle.lines.specs.Deeds.{finds, operation_finds, cells_after, waiting_after}
use Rattle.calls.specs.declared.refusal.Refusal.{Refusal}
use Rattle.calls.specs.Steps.{by_memory, deed_refusal, Shares}
use Rattle.lines.specs.Lines.{next_deed}
use Rattle.lock.specs.declared.deeds.Told.{Told}
use Rattle.lock.specs.declared.task.Task.{Task}

-- an operation takes the memory from m to n
abbrev pub Touched : {M : Type 0} → MemoryGhosts M → M → ℕ → Operation → Result Told Refusal → M → Type 0
Touched mem m t op (Ok told) n =
    (by_memory (refusal mem.limit t op (mem.cells m)) ≡ None)
    × (told.found ≡ operation_finds op (mem.cells m))
    × mem.does m t op told.share n
    × (mem.cells n ≡ after op (mem.cells m))
Touched mem m t op (Err e) n = (by_memory (refusal mem.limit t op (mem.cells m)) ≡ Some e) × (n ≡ m)

-- a deed takes the memory from m to n and the queue from p to q
abbrev pub Performed : {M Q : Type 0} → MemoryGhosts M → QueueGhosts Q → M → Q → ℕ → Deed → Result Told Refusal → M → Q → Type 0
Performed mem que m p t d (Ok told) n q =
    (deed_refusal mem.limit t d (mem.cells m) (que.waiting p) ≡ None)
    × (told.found ≡ finds d t (mem.cells m) (que.waiting p))
    × Shares mem.does m t d told.share n
    × (mem.cells n ≡ cells_after d (mem.cells m))
    × (que.waiting q ≡ waiting_after d t (que.waiting p))
Performed mem que m p t d (Err e) n q =
    (deed_refusal mem.limit t d (mem.cells m) (que.waiting p) ≡ Some e) × (n ≡ m) × (que.waiting q ≡ que.waiting p)

-- the next deed of the task k does
abbrev pub PerformedNext : {M Q : Type 0} → MemoryGhosts M → QueueGhosts Q → M → Q → Task → Result Told Refusal → M → Q → Type 0
PerformedNext mem que m p k r n q = Performed mem que m p k.number (next_deed k.number k.state.track) r n q
