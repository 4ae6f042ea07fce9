use Rattle.std.proofs.Common.{refl, arith}
use Rattle.listing.specs.Listing.{noted}
use Rattle.listing.proofs.Held.{held_more}
use Rattle.listing.proofs.output.Output.hold_note.Goals as goal

pub returns-clause-holds : goal.returns-clause-holds
returns-clause-holds g c =
    let self = c.args.self.now in
    (refl, held_more self.bytes (noted c.args.number c.args.text.now) _ c.put_note.new.out _ self.count c.in_ok-self.field-0 (omega (arith, self.sized, self.within)) c.in_ok-self.ensures.line)
