use Rattle.std.specs.Io.KnownBytes.{Keeps}
use Rattle.streams.proofs.readers.AnySource.read_some.Given as goal

abbrev pub invariant-loop : goal.invariant-loop
invariant-loop g l = Keeps (g.R.Read.remaining l.fn.self) (g.R.Read.remaining l.self)
