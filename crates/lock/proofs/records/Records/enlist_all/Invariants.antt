use Rattle.lock.proofs.Opened.{Enlisted}
use Rattle.lock.proofs.records.Records.enlist_all.Given as goal

abbrev pub invariant-loop-i : goal.invariant-loop-i
invariant-loop-i l = Enlisted l.self.all l.roles l.i
