use Rattle.std.proofs.Common.{◌≡◌, ℕ, List, length, Option}
use Rattle.script.specs.declared.reader.Reader.{Reader}
use Rattle.script.specs.Reading.{to_come}
use Rattle.listing.specs.Outputs.{held}
use Rattle.schedule.specs.Lists.{Lists}
use Rattle.schedule.proofs.printing.list_lines.Given as goal

-- what is still done is done from the start on
abbrev pub invariant-loop-reader : goal.invariant-loop-reader
invariant-loop-reader g l =
    (l.reader.input.now ≡ l.fn.reader.input.now)
    × ((t : g.row.V.Denot) (q : Reader) (rest : List ℕ) (c : Option (List ℕ)) → Lists g.V.Serve.serves l.server l.reader (held l.out) (g.S.Sink.contents l.out.sink) t q rest c →
    Lists g.V.Serve.serves l.fn.server l.fn.reader (held l.fn.out) (g.S.Sink.contents l.fn.out.sink) t q rest c)

abbrev pub decreases-loop-reader : goal.decreases-loop-reader
decreases-loop-reader g l = length (to_come l.reader)
