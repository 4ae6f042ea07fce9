use Rattle.std.proofs.Common.{arith}
use Rattle.listing.proofs.Decimals.{decimal_four, length_four}
use Rattle.listing.proofs.Taken.{takes_both}
use Rattle.listing.proofs.digits.put_long.Goals as goal

pub put_middle-at-requires : goal.put_middle-at-requires
put_middle-at-requires c = (omega arith, omega (arith, length_four c.args.number c.if-number-lt10000.false (omega arith)))

pub put_four-requires : goal.put_four-requires
put_four-requires c = (omega arith, omega (arith, length_four c.args.number c.if-number-lt10000.false (omega arith)))

pub returns : goal.returns
returns c = rw (decimal_four c.args.number c.if-number-lt10000.false (omega arith)) (takes_both c.put_middle-at.ensures c.put_four.ensures)
