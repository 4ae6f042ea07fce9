use Rattle.std.proofs.Common.{arith}
use Rattle.lines.specs.declared.place.Right.TheVariants.{Writing}
use Rattle.calls.proofs.Sound.{holder}
use Rattle.lock.proofs.task.Task.ready_to_downgrade.Goals as goal

pub overflow_add-state : goal.overflow_add-state
overflow_add-state c = let k = (holder c.args.self.state Writing c.args.self.ordered c.requires).changes in omega (arith, k.upgrades, k.downgrades)
