use Rattle.std.proofs.Common.{◌/◌, arith}
use Rattle.listing.proofs.Decimals.{length_two, length_number}
use Rattle.listing.proofs.digits.middle_width.Goals as goal

pub overflow_add-result : goal.overflow_add-result
overflow_add-result c = omega (arith, length_number (c.args.number / 100) (omega arith))

pub returns : goal.returns
returns c = omega (arith, length_two c.args.number c.if-number-lt100.false (omega arith))
