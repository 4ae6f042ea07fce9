use Rattle.std.proofs.Common.{arith}
use Rattle.std.proofs.lemmas.Grind.{common_steps}
use Rattle.std.proofs.lemmas.List.{at_drop_more}
use Rattle.std.specs.Char.{is_ascii_digit}
use Rattle.std.specs.List.{prefix_len}
use Rattle.script.proofs.Digits.{one_more_digit}
use Rattle.script.proofs.numbers.digits.Goals as goal

pub loop-i-preserved : goal.loop-i-preserved
loop-i-preserved c =
    let text = c.args.text.now in
    let i = c.loop-i.i in
    let more = one_more_digit c.args.front text i c.loop-i.n (omega arith) c.loop-i.invariant.so_far in
    let rest = at_drop_more (prefix_len is_ascii_digit) text i 0 (omega arith) in
    record { so_far = grind (arith, common_steps, more); passed = grind (arith, common_steps, rest) }
