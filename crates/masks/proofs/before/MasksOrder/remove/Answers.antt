-- The sets without the oldest are those of the list without it.
use Rattle.std.proofs.Common.{sym, ◌∙◌, rules}
use Rattle.masks.proofs.Kept.{kept_quit}
use Rattle.masks.proofs.before.MasksOrder.remove.Goals as goal

pub invariant_of-self : goal.invariant_of-self
invariant_of-self c =
    let s = c.args.self.now in
    let first = sym c.is_oldest.ensures ∙ c.if-not-is_oldest.false in
    record { places = search rules; kept = (kept_quit s.before c.strike.new.sets s.who c.args.task c.without_task-self.result s.places s.kept first c.strike.ensures c.without_task-self.ensures).1 }

pub returns-clause-left : goal.returns-clause-left
returns-clause-left c =
    let s = c.args.self.now in
    let first = sym c.is_oldest.ensures ∙ c.if-not-is_oldest.false in
    (kept_quit s.before c.strike.new.sets s.who c.args.task c.without_task-self.result s.places s.kept first c.strike.ensures c.without_task-self.ensures).0
