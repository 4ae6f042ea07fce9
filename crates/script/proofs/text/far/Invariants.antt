use Rattle.std.proofs.Common.{◌≡◌, ◌+◌, ◌*◌, drop}
use Rattle.script.specs.Cuts.{before}
use Rattle.script.proofs.text.far.Given as goal

abbrev pub invariant-loop-i : goal.invariant-loop-i
invariant-loop-i l = before l.mark l.text ≡ 64 * l.i + before l.mark (drop (64 * l.i) l.text)
