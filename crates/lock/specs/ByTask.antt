-- The calls by task: each takes the pass that the task's right allows, uses it, and lays back what is left. Each is a plan of the
-- nine calls.
use Rattle.std.specs.Prelude.{◌≡◌, ℕ, true, false, List, Some, None, Ok, Err, Option, Result}
use Rattle.memory.specs.declared.interface.Memory.{Ghosts as MemoryGhosts}
use Rattle.queue.specs.declared.interface.Queue.{Ghosts as QueueGhosts}
use Rattle.lines.specs.declared.place.Right.{Right}
use Rattle.lines.specs.declared.place.Right.TheVariants.{Reading, Writing}
use Rattle.calls.specs.declared.refusal.Refusal.{Refusal}
use Rattle.calls.specs.declared.refusal.Refusal.TheVariants.{Outside}
use Rattle.calls.specs.Questions.{pass_refusal, task_refusal}
use Rattle.calls.specs.Steps.{Answer, Call, done, downgrade, hands, lay_back, leave, no, put, read, take, upgrade}
use Rattle.lock.specs.declared.locks.Lock.{Lock}
use Rattle.lock.specs.declared.pass.Kept.{Kept}
use Rattle.lock.specs.declared.pass.Pass.{Pass}
use Rattle.lock.specs.Runs.{Made, Run, was_obeyed}
use Rattle.lock.specs.View.{Does, view}

-- A plan: calls made one after another. What is called next may depend on what was answered.
pub data Plan : Type 0 where
  -- no more is called, and this is the answer of the whole
  ends : Answer → Plan
  makes : Call → (Answer → Plan) → Plan

-- one call alone
abbrev pub once : Call → Plan
once c = makes c ends

-- a pass for the right w is taken for task t and used; where it is refused, that is all
abbrev pub used : (ℕ → ℕ → Plan) → Answer → Plan
used plan (hands w k t) = plan k t
used plan a = ends a

abbrev pub with_pass : Right → ℕ → (ℕ → ℕ → Plan) → Plan
with_pass w t plan = makes (take w t) (used plan)

-- the pass is laid back, and this is the answer of the whole
abbrev pub laid_back : Right → ℕ → ℕ → Answer → Plan
laid_back w k t a = makes (lay_back w k t) (λ _. ends a)

-- so only where a call that spends the pass was refused, and gave it back
abbrev pub laid_where_refused : Right → ℕ → ℕ → Answer → Plan
laid_where_refused w k t (no e) = laid_back w k t (no e)
laid_where_refused w k t a = ends a

-- a pass is taken and spent on a call
abbrev pub spends : Right → ℕ → (ℕ → ℕ → Call) → Plan
spends w t c = with_pass w t (λ k u. makes (c k u) (laid_where_refused w k u))

-- a pass is taken, shown to a call, and laid back whatever was answered
abbrev pub shows : Right → ℕ → (ℕ → ℕ → Call) → Plan
shows w t c = with_pass w t (λ k u. makes (c k u) (laid_back w k u))

-- by whichever right the task has, as the question on it told; a task that is not inside has none
abbrev pub by_right : Result (Option Right) Refusal → (Right → Plan) → Plan
by_right (Ok (Some w)) p = p w
by_right (Ok None) p = ends (no Outside)
by_right (Err e) p = ends (no e)

abbrev pub upgrade_plan : ℕ → Plan
upgrade_plan t = spends Reading t upgrade

abbrev pub downgrade_plan : ℕ → Plan
downgrade_plan t = spends Writing t downgrade

abbrev pub leave_by : Right → ℕ → Plan
leave_by w t = spends w t (leave w)

abbrev pub leave_plan : Result (Option Right) Refusal → ℕ → Plan
leave_plan told t = by_right told (λ w. leave_by w t)

abbrev pub read_by : Right → ℕ → ℕ → Plan
read_by w t row = shows w t (λ k u. read w k u row)

abbrev pub read_plan : Result (Option Right) Refusal → ℕ → ℕ → Plan
read_plan told t row = by_right told (λ w. read_by w t row)

abbrev pub put_plan : ℕ → ℕ → ℕ → Plan
put_plan t row n = shows Writing t (λ k u. put k u row n)

module _ {M Q : Type 0} (mem : MemoryGhosts M) (que : QueueGhosts Q) where
  -- the lock follows the plan from l to l', which answers a: each call does what its own contract says
  abbrev pub Follows : Plan → Lock M Q → Answer → Lock M Q → Type 0
  Follows (ends b) l a l' = (a ≡ b) × (l' ≡ l)
  Follows (makes c next) l a l' = (b : Answer) × (m : Lock M Q) × Does mem que c l b m × Follows (next b) m a l'

  -- some calls lead from l to l', as a run of the nine calls: what the openings promise of runs holds of it
  abbrev pub Runs : Lock M Q → Lock M Q → Type 0
  Runs l l' = (es : List Made) × Run mem.does mem.limit es (view mem que l) l.memory (view mem que l') l'.memory

  -- what a call by task, which is the plan p of task t, leads to from l: the answer a, and l'
  pub record ByPlan (p : Plan) (t : ℕ) (l : Lock M Q) (a : Answer) (l' : Lock M Q) : Type 0 where
    -- each call of the plan does what its own contract says
    pub follows : Follows p l a l'
    -- so it is a run of the nine calls, of which the promises of the openings speak
    pub runs : Runs l l'
    -- obeyed, the task is there; refused, everything is as it was
    pub there : was_obeyed a ≡ true → task_refusal (view mem que l') t ≡ None
    pub same : was_obeyed a ≡ false → view mem que l' ≡ view mem que l

  -- such a pass is out here
  abbrev pub IsOut : Right → ℕ → ℕ → Lock M Q → Type 0
  IsOut w k t l = pass_refusal (view mem que l) w k t ≡ None

  -- what came of a call that spends a pass is told; where it was refused, the pass that came back is laid back first
  abbrev pub Settles : {R : Type 0} → Right → Result (Unit {0}) (Kept (Pass R)) → Lock M Q → Answer → Lock M Q → Type 0
  Settles w (Ok _) l a l' = (a ≡ done) × (l' ≡ l)
  Settles w (Err k) l a l' = (a ≡ no k.why) × Does mem que (lay_back w k.pass.lock k.pass.task) l done l'
