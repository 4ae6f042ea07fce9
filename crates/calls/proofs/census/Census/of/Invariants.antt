use Rattle.std.proofs.Common.{◌≡◌, take}
use Rattle.calls.specs.Census.{census_of}
use Rattle.calls.proofs.census.Census.of.Given as goal

abbrev pub invariant-loop-task : goal.invariant-loop-task
invariant-loop-task l = l.census ≡ census_of (take l.task-index l.tasks)
