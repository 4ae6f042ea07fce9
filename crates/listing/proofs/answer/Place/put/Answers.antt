use Rattle.std.proofs.Common.{arith}
use Rattle.listing.proofs.Decimals.{length_number}
use Rattle.listing.proofs.answer.Place.put.Goals as goal

pub put_number-requires : goal.put_number-requires
put_number-requires c = omega (arith, length_number c.in-At.line (omega arith))

pub returns-in-At-clause-short : goal.returns-in-At-clause-short
returns-in-At-clause-short c = rw c.in-At.is (length_number c.in-At.line (omega arith))
