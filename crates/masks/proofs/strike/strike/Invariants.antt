-- The sets before the index are done, and the others are as they were.
use Rattle.std.proofs.Common.{◌≡◌, ◌++◌, map, take, drop}
use Rattle.sets.specs.Sets.{taken_out}
use Rattle.masks.proofs.strike.strike.Given as goal

abbrev pub invariant-loop-set : goal.invariant-loop-set
invariant-loop-set l = l.sets ≡ map (λ m. taken_out m l.task) (take l.set-index l.initial.sets) ++ drop l.set-index l.initial.sets
