-- The oldest is the one in the set of who waits that has nobody before it.
use Rattle.std.proofs.Common.{Bool, ◌&&◌, eqb, ap, ◌∙◌}
use Rattle.masks.specs.Sets.{waiting_of, set_before}
use Rattle.masks.proofs.Kept.{contained_oldest}
use Rattle.masks.proofs.before.MasksOrder.is_oldest.Goals as goal

pub returns-then-contains : goal.returns-then-contains
returns-then-contains c =
    let s = c.args.self.now in
    ap (λ (b : Bool). b && eqb (set_before s.before c.args.task) 0) c.if-contains.ensures ∙ contained_oldest s.before s.who (waiting_of s.before s.who) c.args.task s.kept

pub returns-else-contains : goal.returns-else-contains
returns-else-contains c =
    let s = c.args.self.now in
    c.if-contains.false ∙ ap (λ (b : Bool). b && eqb (set_before s.before c.args.task) 0) c.if-contains.ensures ∙ contained_oldest s.before s.who (waiting_of s.before s.who) c.args.task s.kept
