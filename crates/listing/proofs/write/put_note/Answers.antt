use Rattle.std.proofs.Common.{ℕ, arith, length-append}
use Rattle.listing.proofs.Decimals.{length_number}
use Rattle.listing.proofs.Taken.{takes_both, took}
use Rattle.listing.proofs.write.put_note.Goals as goal

pub overflow_add-width : goal.overflow_add-width
overflow_add-width c = omega (arith, length_number c.args.number (omega arith))

pub overflow_add-width-2 : goal.overflow_add-width-2
overflow_add-width-2 c = omega (arith, length_number c.args.number (omega arith))

pub returns-then-out-width-clause-short : goal.returns-then-out-width-clause-short
returns-then-out-width-clause-short c = omega (arith, length-append {A = ℕ}, length_number c.args.number (omega arith))

pub returns-clause-line : goal.returns-clause-line
returns-clause-line c =
    took (takes_both (takes_both c.put_front-at.ensures c.put_text-at.ensures) c.put_byte.ensures)

pub returns-clause-short : goal.returns-clause-short
returns-clause-short c = omega (arith, length-append {A = ℕ}, length_number c.args.number (omega arith))
