use Rattle.std.specs.Io.KnownBytes.{Keeps}
use Rattle.streams.proofs.writers.AnySink.write_some.Given as goal

abbrev pub invariant-loop : goal.invariant-loop
invariant-loop g l = Keeps (g.W.Write.contents l.fn.self) (g.W.Write.contents l.self)
