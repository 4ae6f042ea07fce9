use Rattle.std.proofs.Common.{arith}
use Rattle.listing.proofs.Decimals.{decimal_short, decimal_two, length_one, length_short, length_two}
use Rattle.listing.proofs.Taken.{takes_both}
use Rattle.listing.proofs.digits.put_short.Goals as goal

pub put_one-requires : goal.put_one-requires
put_one-requires c = (c.if-number-lt10.true, omega (arith, length_one c.args.number c.if-number-lt10.true))

pub put_two-requires : goal.put_two-requires
put_two-requires c = (c.if-number-lt100.true, omega (arith, length_short c.args.number c.if-number-lt10.false c.if-number-lt100.true))

pub returns-then-number-lt100 : goal.returns-then-number-lt100
returns-then-number-lt100 c = rw (decimal_short c.args.number c.if-number-lt10.false c.if-number-lt100.true) c.put_two.ensures

pub put_one-at-requires : goal.put_one-at-requires
put_one-at-requires c = (omega arith, omega (arith, length_two c.args.number c.if-number-lt100.false (omega arith)))

pub put_two-requires-2 : goal.put_two-requires-2
put_two-requires-2 c = (omega arith, omega (arith, length_two c.args.number c.if-number-lt100.false (omega arith)))

pub returns : goal.returns
returns c = rw (decimal_two c.args.number c.if-number-lt100.false (omega arith)) (takes_both c.put_one-at.ensures c.put_two-2.ensures)
