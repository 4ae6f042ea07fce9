use Rattle.std.proofs.Common.{arith}
use Rattle.listing.proofs.Decimals.{decimal_full, decimal_four, length_full, length_four}
use Rattle.listing.proofs.Taken.{takes_both}
use Rattle.listing.proofs.digits.put_middle.Goals as goal

pub put_four-requires : goal.put_four-requires
put_four-requires c = (omega arith, omega (arith, length_full c.args.number c.if-number-lt1000.false c.if-number-lt10000.true))

pub returns-then-number-lt10000 : goal.returns-then-number-lt10000
returns-then-number-lt10000 c = rw (decimal_full c.args.number c.if-number-lt1000.false c.if-number-lt10000.true) c.put_four.ensures

pub put_short-at-requires : goal.put_short-at-requires
put_short-at-requires c = (omega arith, omega (arith, length_four c.args.number c.if-number-lt10000.false (omega arith)))

pub put_four-requires-2 : goal.put_four-requires-2
put_four-requires-2 c = (omega arith, omega (arith, length_four c.args.number c.if-number-lt10000.false (omega arith)))

pub returns : goal.returns
returns c = rw (decimal_four c.args.number c.if-number-lt10000.false (omega arith)) (takes_both c.put_short-at.ensures c.put_four-2.ensures)
