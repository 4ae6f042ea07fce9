-- The set has as many tasks as the list, since none waits twice.
use Rattle.std.proofs.Common.{◌∙◌}
use Rattle.masks.specs.Sets.{waiting_of}
use Rattle.masks.proofs.Kept.{counted_length}
use Rattle.masks.proofs.before.MasksOrder.held.Goals as goal

pub returns : goal.returns
returns c =
    let s = c.args.self.now in
    c.count.ensures ∙ counted_length s.before s.who (waiting_of s.before s.who) s.kept
