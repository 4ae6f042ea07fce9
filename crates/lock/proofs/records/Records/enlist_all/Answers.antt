use Rattle.lock.proofs.Opened.{enlist_more}
use Rattle.lock.proofs.records.Records.enlist_all.Goals as goal

pub invariant_of-self-clause-ordered : goal.invariant_of-self-clause-ordered
invariant_of-self-clause-ordered c = (enlist_more c.loop-i.self.all c.args.roles.now c.loop-i.i c.enlist.result c.loop-i.invariant c.loop-i-test.true c.requires c.enlist.ensures).ordered
