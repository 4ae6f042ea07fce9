use Rattle.std.proofs.Common.{arith}
use Rattle.listing.proofs.Decimals.{length_number}
use Rattle.listing.proofs.answer.Answer.put.Goals as goal

pub put_rare-requires : goal.put_rare-requires
put_rare-requires c = omega (arith, length_number c.in-Opened.tasks (omega arith))

pub put_rare-requires-in-Refused : goal.put_rare-requires-in-Refused
put_rare-requires-in-Refused c = omega (arith, length_number c.in-Refused.why (omega arith))

pub returns-in-Opened-clause-short : goal.returns-in-Opened-clause-short
returns-in-Opened-clause-short c = rw c.in-Opened.is (omega (arith, length_number c.in-Opened.tasks (omega arith)))

pub returns-in-Refused-clause-short : goal.returns-in-Refused-clause-short
returns-in-Refused-clause-short c = rw c.in-Refused.is (omega (arith, length_number c.in-Refused.why (omega arith)))
