use Rattle.std.proofs.Common.{arith, length-append}
use Rattle.listing.proofs.Decimals.{length_number}
use Rattle.listing.proofs.Taken.{takes_both}
use Rattle.listing.proofs.answer.put_moved.Goals as goal

pub put_byte-at-requires : goal.put_byte-at-requires
put_byte-at-requires c = omega arith

pub put_number-requires : goal.put_number-requires
put_number-requires c = omega (arith, length_number c.args.cost (omega arith))

pub returns-clause-written : goal.returns-clause-written
returns-clause-written c =
    takes_both (takes_both (takes_both c.put_text-at.ensures c.put-at.ensures.written) c.put_byte-at.ensures) c.put_number.ensures

pub returns-clause-short : goal.returns-clause-short
returns-clause-short c = simp length-append (omega (arith, length_number c.args.cost (omega arith)))
