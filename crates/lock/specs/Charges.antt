-- What calls make of the accounts of tasks.
use Rattle.std.specs.Prelude.{◌≡◌, ℕ, ◌+◌, Bool, true, false, min, cond, not, ◌&&◌, ◌==◌}
use Rattle.memory.specs.Calls.{Doing}
use Rattle.lines.specs.declared.deed.Deed.{Deed}
use Rattle.lines.specs.declared.deed.Deed.TheVariants.{Touch}
use Rattle.lines.specs.declared.place.Place.{Place}
use Rattle.lines.specs.declared.place.Place.TheVariants.{Rest}
use Rattle.calls.specs.declared.record.Record.{Record}
use Rattle.calls.specs.Steps.{Call, advance, begin, downgrade, leave, upgrade}
use Rattle.lock.specs.History.{History}
use Rattle.lock.specs.Runs.{Made, task_of, was_obeyed}

-- of a deed of task t, which took it from n to p, the memory told this share: that of its operation, or 0 where it touches no cell
abbrev pub TellsShare : {M : Type 0} → Doing M → M → ℕ → Deed → ℕ → M → Type 0
TellsShare does n t (Touch op) share p = does n t op share p
TellsShare does n t d share p = (share ≡ 0) × (p ≡ n)

-- What an obeyed call makes of its task's cost, where the memory told this share: begin starts it anew, a line adds its share, and no
-- cost passes the largest 32-bit number.
abbrev pub cost_after : ℕ → ℕ → Call → ℕ
cost_after cost share (begin t) = min share 4294967295
cost_after cost share (advance t) = min (cost + share) 4294967295
cost_after cost share (upgrade k t) = min (cost + share) 4294967295
cost_after cost share (downgrade k t) = min (cost + share) 4294967295
cost_after cost share (leave w k t) = min (cost + share) 4294967295
cost_after cost share c = cost

-- what a call makes of the cost of task t: nothing, where it is refused or another task's
abbrev pub cost_made : ℕ → ℕ → ℕ → Made → ℕ
cost_made t cost share e = cond (was_obeyed e.answer && (task_of e.call == t)) (cost_after cost share e.call) cost

-- whether a task at this place is at rest (written out here, and not the test by which records are kept in order)
abbrev pub is_rest : Place → Bool
is_rest Rest = true
is_rest p = false

-- whether a task that was at the first place and is at the second has come to rest
abbrev pub comes_to_rest : Place → Place → Bool
comes_to_rest p q = not (is_rest p) && is_rest q

-- 1 for a task at this place that is in an attempt, which it began and has not finished
abbrev pub unfinished : Place → ℕ
unfinished p = cond (is_rest p) 0 1

-- A call leaves the record r of a task as q: where the task comes to rest, one more attempt is finished, and its cost joins the total;
-- else neither moves.
abbrev pub Finishes : Record → Record → Type 0
Finishes r q =
    (q.account.finished ≡ r.account.finished + cond (comes_to_rest r.track.place q.track.place) 1 0)
    × (q.account.total ≡ r.account.total + cond (comes_to_rest r.track.place q.track.place) q.account.cost 0)

-- The call e, for which the memory told this share, leaves the record r of task t as q: its cost is what the call makes of it, and an
-- attempt is finished only where the task comes to rest.
abbrev pub Charges : ℕ → ℕ → Made → Record → Record → Type 0
Charges t share e r q = (q.account.cost ≡ cost_made t r.account.cost share e) × Finishes r q

-- the account of a record counts what the history says: upgrades, downgrades, and attempts, of which the last may be unfinished
abbrev pub Counts : History → Record → Type 0
Counts h r = (r.account.u ≡ h.upgrades) × (r.account.g ≡ h.downgrades) × (r.account.finished + unfinished r.track.place ≡ h.begins)
