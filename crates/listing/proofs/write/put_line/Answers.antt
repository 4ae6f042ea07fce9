use Rattle.std.proofs.Common.{ℕ, arith, append_assoc, length-append}
use Rattle.std.specs.Fmt.{decimal}
use Rattle.listing.specs.Answers.{space, told}
use Rattle.listing.proofs.Decimals.{length_number}
use Rattle.listing.proofs.Taken.{takes_both, took}
use Rattle.listing.proofs.write.put_line.Goals as goal

pub put_long-at-requires : goal.put_long-at-requires
put_long-at-requires c = omega (arith, length_number c.args.number (omega arith))

pub put-at-requires : goal.put-at-requires
put-at-requires c = omega (arith, length_number c.args.number (omega arith))

pub put_byte-requires : goal.put_byte-requires
put_byte-requires c = omega (arith, length_number c.args.number (omega arith))

pub returns-clause-written : goal.returns-clause-written
returns-clause-written c =
    rw (append_assoc (decimal c.args.number) space (told c.args.answer)) (took (takes_both (takes_both c.put_long-at.ensures c.put-at.ensures.written) c.put_byte.ensures))

pub returns-clause-short : goal.returns-clause-short
returns-clause-short c = omega (arith, length-append {A = ℕ}, length_number c.args.number (omega arith))
