use Rattle.std.specs.Prelude.{◌≡◌, ◌-◌, ◌≤◌, length}
use Rattle.ribrun.specs.Reading.{Moved}
use Rattle.ribrun.proofs.reading.read_input.Given as goal

abbrev pub invariant-loop-taken : goal.invariant-loop-taken
invariant-loop-taken g l = record {
  moved : Moved (g.S.Source.remaining l.fn.source) (g.S.Source.remaining l.source) (g.K.Sink.contents l.fn.out) (g.K.Sink.contents l.out) l.taken;
  bounded : l.taken ≤ 69632;
  sized : length l.piece ≡ 4096;
}

abbrev pub decreases-loop-taken : goal.decreases-loop-taken
decreases-loop-taken g l = 69632 - l.taken
