-- No statement over runs holds for want of runs: a lock can be opened, and from each state each call has an answer and a next state,
-- so that each list of calls has a run.
use Rattle.std.specs.Prelude.{◌≡◌, ℕ, List, map, None, Ok}
use Rattle.memory.specs.declared.interface.Memory.{Ghosts}
use Rattle.memory.specs.declared.operation.Operation.{Operation}
use Rattle.memory.specs.Operations.{refusal}
use Rattle.calls.specs.Opening.{Opens, open_refusal}
use Rattle.calls.specs.States.{State}
use Rattle.calls.specs.Steps.{Answer, Call, Calls}
use Rattle.lock.specs.Runs.{Made, Run}

-- the memory does what it does not refuse
abbrev pub Total : {M : Type 0} → Ghosts M → Type 0
Total {M} mem = (m : M) (t : ℕ) (op : Operation) → refusal mem.limit t op (mem.cells m) ≡ None → (share : ℕ) × (n : M) × mem.does m t op share n

abbrev pub EachAnswers : {M : Type 0} → Ghosts M → Type 0
EachAnswers {M} mem = (c : Call) (s : State) (m : M) → s.cells ≡ mem.cells m → (a : Answer) × (z : State) × (n : M) × Calls mem.does mem.limit c s m a z n

-- some answers, a state and a memory make a run of these calls from s and m
abbrev pub HasRun : {M : Type 0} → Ghosts M → List Call → State → M → Type 0
HasRun {M} mem cs s m = (es : List Made) × (map (λ e. e.call) es ≡ cs) × (z : State) × (n : M) × Run mem.does mem.limit es s m z n

abbrev pub EachRuns : {M : Type 0} → Ghosts M → Type 0
EachRuns {M} mem = (cs : List Call) (s : State) (m : M) → s.cells ≡ mem.cells m → HasRun mem cs s m

-- roles that meet no question of open have an opened lock, and from there each list of calls has a run
abbrev pub EachOpens : {M : Type 0} → Ghosts M → Type 0
EachOpens {M} mem =
    (s : State) (m : M) (roles : List ℕ) → s.cells ≡ mem.cells m → open_refusal mem.limit (mem.top m) s roles ≡ None →
    (z : State) × (n : M) × Opens mem.does None s m roles (Ok tt) z n × ((cs : List Call) → HasRun mem cs z n)

pub record Answering {M : Type 0} (mem : Ghosts M) : Type 0 where
  pub opens : EachOpens mem
  pub answers : EachAnswers mem
  pub runs : EachRuns mem
