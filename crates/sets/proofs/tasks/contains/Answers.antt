use Rattle.std.proofs.Common.{ℕ, not, eqb, ap, ◌∙◌}
use lib.Bits.{bit_and}
use Rattle.sets.proofs.Bit.{bit_asked}
use Rattle.sets.proofs.tasks.contains.Goals as goal

pub returns : goal.returns
returns c = ap (λ (b : ℕ). not (eqb (bit_and c.args.set b) 0)) c.bit.ensures ∙ bit_asked c.args.set c.args.task
