use Rattle.calls.specs.Records.{in_order}
use Rattle.lock.proofs.Kept.{pass_set}
use Rattle.lock.proofs.records.Records.put.Goals as goal

pub invariant_of-self-clause-ordered : goal.invariant_of-self-clause-ordered
invariant_of-self-clause-ordered c = let s = c.args.self.now in pass_set in_order s.all _ c.args.task.state s.ordered c.args.task.ordered
