use Rattle.std.proofs.Common.{length, ◌≡◌, subst, rules}
use Rattle.calls.proofs.Greatest.{Leads, costliest_is}
use Rattle.calls.proofs.costs.costliest.Goals as goal

pub returns-clause-value : goal.returns-clause-value
returns-clause-value c =
    let tasks = c.args.tasks.now in
    let all : c.loop-i.i ≡ length tasks = search rules in
    costliest_is tasks c.loop-i.best c.loop-i.most (subst (λ n. Leads tasks n c.loop-i.best c.loop-i.most) all c.loop-i.invariant)
