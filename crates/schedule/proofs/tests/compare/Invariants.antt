use Rattle.std.proofs.Common.{◌≡◌, length}
use Rattle.schedule.proofs.tests.compare.Given as goal

abbrev pub invariant-loop : goal.invariant-loop
invariant-loop g l = length l.buffer ≡ length l.initial.buffer
