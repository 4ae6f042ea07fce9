use Rattle.std.proofs.Common.{arith}
use Rattle.listing.proofs.Decimals.{length_one}
use Rattle.listing.proofs.digits.put_number.Goals as goal

pub put_one-requires : goal.put_one-requires
put_one-requires c = (c.if-number-lt10.true, omega (arith, length_one c.args.number c.if-number-lt10.true))
