use Rattle.std.proofs.Common.{[], ◌++◌, sym, subst}
use Rattle.std.proofs.lemmas.Result.{MatchResult-from_err}
use Rattle.streams.specs.Streams.{Passed}
use Rattle.listing.specs.Listing.{noted}
use Rattle.listing.specs.Outputs.{held}
use Rattle.listing.proofs.Held.{cut_line, passed_then}
use Rattle.listing.proofs.output.Output.put_note.Goals as goal

pub returns-in_err-make_room-clause-appended : goal.returns-in_err-make_room-clause-appended
returns-in_err-make_room-clause-appended g c =
    MatchResult-from_err c.from_residual.result _ _ c.from_residual.ensures.0
    (λ e. cut_line (held c.args.self.now) (noted c.args.number c.args.text.now) _ _ c.in_err-make_room.ensures.appended)

pub returns-in-Err-clause-appended : goal.returns-in-Err-clause-appended
returns-in-Err-clause-appended g c =
    let first = c.args.self.now in
    let then = c.make_room.new.self in
    let contents = g.S.Sink.contents in
    let same = c.in-Err.ensures.holds in
    let passed = subst (λ s. Passed (held first ++ []) (contents first.sink) (held then) (contents s)) (sym same.0) c.in_ok-make_room.ensures.appended in
    passed_then (held first) (held then) (held c.hold_note.new.self) (noted c.args.number c.args.text.now) _ _ _ _ c.write_note.result passed same.1.0 c.write_note.ensures.appended
