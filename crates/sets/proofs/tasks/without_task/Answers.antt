-- All bits but one are kept.
use Rattle.std.proofs.Common.{ℕ, ◌-◌, ◌^◌, ◌<◌, ap, ◌∙◌, rules}
use lib.Bits.{bit_and}
use Rattle.sets.proofs.Bit.{bit_taken}
use Rattle.sets.proofs.tasks.without_task.Goals as goal

pub returns : goal.returns
returns c =
    let fits : c.args.set < 2 ^ 64 = search rules in
    ap (λ (b : ℕ). bit_and c.args.set (18446744073709551615 - b)) c.bit.ensures ∙ bit_taken c.args.set c.args.task fits
