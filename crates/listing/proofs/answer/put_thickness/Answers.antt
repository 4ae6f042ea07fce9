use Rattle.std.proofs.Common.{arith}
use Rattle.listing.proofs.Decimals.{length_number}
use Rattle.listing.proofs.answer.put_thickness.Goals as goal

pub put_rare-requires : goal.put_rare-requires
put_rare-requires c = omega (arith, length_number c.in-Some.number (omega arith))

pub returns-in-Some-clause-short : goal.returns-in-Some-clause-short
returns-in-Some-clause-short c = rw c.in-Some.is (length_number c.in-Some.number (omega arith))
