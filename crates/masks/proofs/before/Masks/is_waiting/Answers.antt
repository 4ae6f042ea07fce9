-- The set of who waits is that of the list.
use Rattle.std.proofs.Common.{◌∙◌}
use Rattle.masks.specs.Sets.{waiting_of}
use Rattle.masks.proofs.Kept.{contained_waits}
use Rattle.masks.proofs.before.Masks.is_waiting.Goals as goal

pub returns : goal.returns
returns c =
    let s = c.args.self.now in
    c.contains.ensures ∙ contained_waits s.before s.who (waiting_of s.before s.who) c.args.task s.kept
