use Rattle.calls.proofs.Greatest.{Leads}
use Rattle.calls.proofs.costs.costliest.Given as goal

abbrev pub invariant-loop-i : goal.invariant-loop-i
invariant-loop-i l = Leads l.tasks l.i l.best l.most
