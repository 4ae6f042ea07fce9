-- The sets with the task put in are those of the longer list.
use Rattle.std.proofs.Common.{sym, ◌∙◌, rules}
use Rattle.masks.proofs.Kept.{kept_put_in}
use Rattle.masks.proofs.before.MasksOrder.append.Goals as goal

pub invariant_of-self : goal.invariant_of-self
invariant_of-self c =
    let s = c.args.self.now in
    let may = sym c.can_join.ensures ∙ c.if-not-can_join.false in
    record { places = search rules; kept = (kept_put_in s.before s.who c.args.task c.with_task-self.result s.places s.kept may c.with_task-self.ensures.value).1 }

pub returns-clause-joined : goal.returns-clause-joined
returns-clause-joined c =
    let s = c.args.self.now in
    let may = sym c.can_join.ensures ∙ c.if-not-can_join.false in
    (kept_put_in s.before s.who c.args.task c.with_task-self.result s.places s.kept may c.with_task-self.ensures.value).0
