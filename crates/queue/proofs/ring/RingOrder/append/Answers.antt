-- The task can join, so that there is room, and the list stays lawful.
use Rattle.std.proofs.Common.{sym, ◌∙◌, arith, rules}
use Rattle.queue.proofs.Round.{round_join}
use Rattle.queue.proofs.ring.RingOrder.append.Goals as goal

pub invariant_of-self : goal.invariant_of-self
invariant_of-self c =
    let s = c.args.self.now in
    let may = sym c.can_join.ensures ∙ c.if-not-can_join.false in
    let e = round_join s.numbers c.args.task s.start s.count s.places s.inside s.distinct may in
    record { places = search rules; inside = s.inside; fits = omega (arith, e.0); distinct = e.2 }

pub returns-clause-joined : goal.returns-clause-joined
returns-clause-joined c =
    let s = c.args.self.now in
    let may = sym c.can_join.ensures ∙ c.if-not-can_join.false in
    (round_join s.numbers c.args.task s.start s.count s.places s.inside s.distinct may).1
