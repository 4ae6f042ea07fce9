use Rattle.lock.proofs.Opened.{fresh_all}
use Rattle.lock.proofs.locks.Lock.new.Goals as goal

pub invariant_of-result-clause-ordered : goal.invariant_of-result-clause-ordered
invariant_of-result-clause-ordered g c = fresh_all 64 c.new.result c.new.ensures
