-- What a deed of task t finds in the cells cs and the queue ws, and what it leaves of them.
use Rattle.std.specs.Prelude.{ℕ, List, [], ◌∷◌, ◌++◌, ◌==◌, slice_index}
use Rattle.memory.specs.declared.operation.Operation.{Operation}
use Rattle.memory.specs.declared.operation.Operation.TheVariants.{Read, Write, Add, Swap}
use Rattle.memory.specs.Operations.{after}
use Rattle.queue.specs.Waiting.{oldest, rest}
use Rattle.lines.specs.declared.deed.Deed.{Deed}
use Rattle.lines.specs.declared.deed.Deed.TheVariants as deed
use Rattle.lines.specs.declared.deed.Found.{Found}
use Rattle.lines.specs.declared.deed.Found.TheVariants.{Nothing, Number, Answer}

abbrev pub operation_finds : Operation → List ℕ → Found
operation_finds (Read c) cs = Number (slice_index cs c)
operation_finds (Write c n) cs = Nothing
operation_finds (Add c s) cs = Number (slice_index cs c)
operation_finds (Swap c e n) cs = Answer (slice_index cs c == e)

abbrev pub finds : Deed → ℕ → List ℕ → List ℕ → Found
finds (deed.Touch op) t cs ws = operation_finds op cs
finds deed.Join t cs ws = Nothing
finds deed.First t cs ws = Answer (oldest ws t)
finds deed.Quit t cs ws = Nothing
finds deed.Nothing t cs ws = Nothing

abbrev pub cells_after : Deed → List ℕ → List ℕ
cells_after (deed.Touch op) cs = after op cs
cells_after deed.Join cs = cs
cells_after deed.First cs = cs
cells_after deed.Quit cs = cs
cells_after deed.Nothing cs = cs

abbrev pub waiting_after : Deed → ℕ → List ℕ → List ℕ
waiting_after (deed.Touch op) t ws = ws
waiting_after deed.Join t ws = ws ++ t ∷ []
waiting_after deed.First t ws = ws
waiting_after deed.Quit t ws = rest ws
waiting_after deed.Nothing t ws = ws
