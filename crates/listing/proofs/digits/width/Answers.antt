use Rattle.std.proofs.Common.{arith, ◌/◌}
use Rattle.listing.proofs.Decimals.{length_four, length_number}
use Rattle.listing.proofs.digits.width.Goals as goal

pub overflow_add-result : goal.overflow_add-result
overflow_add-result c = omega (arith, length_number (c.args.number / 10000) (omega arith))

pub returns-then-high-lt10000 : goal.returns-then-high-lt10000
returns-then-high-lt10000 c = omega (arith, length_four c.args.number c.if-number-lt10000.false (omega arith))

pub overflow_add-result-2 : goal.overflow_add-result-2
overflow_add-result-2 c = omega (arith, length_number (c.args.number / 10000 / 10000) (omega arith))

pub returns : goal.returns
returns c = omega (arith, length_four c.args.number c.if-number-lt10000.false (omega arith), length_four (c.args.number / 10000) c.if-high-lt10000.false (omega arith))
