use Rattle.std.proofs.Common.{refl, arith}
use Rattle.listing.specs.Listing.{shown}
use Rattle.listing.proofs.Held.{held_more}
use Rattle.listing.proofs.output.Output.hold_answer.Goals as goal

pub returns-clause-holds : goal.returns-clause-holds
returns-clause-holds g c =
    let self = c.args.self.now in
    (refl, held_more self.bytes (shown c.args.number c.args.answer) _ c.put_line.new.out _ self.count c.put_line.result (omega (arith, self.sized, self.within)) c.put_line.ensures.written)
