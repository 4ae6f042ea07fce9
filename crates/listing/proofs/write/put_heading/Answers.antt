use Rattle.std.proofs.Common.{ℕ, arith, length-append}
use Rattle.listing.proofs.Decimals.{length_number}
use Rattle.listing.proofs.Taken.{took}
use Rattle.listing.proofs.write.put_heading.Goals as goal

pub returns-then-out-width-clause-short : goal.returns-then-out-width-clause-short
returns-then-out-width-clause-short c = omega (arith, length-append {A = ℕ}, length_number c.args.number (omega arith))

pub returns-clause-line : goal.returns-clause-line
returns-clause-line c = took c.put_front.ensures

pub returns-clause-short : goal.returns-clause-short
returns-clause-short c = omega (arith, length-append {A = ℕ}, length_number c.args.number (omega arith))
