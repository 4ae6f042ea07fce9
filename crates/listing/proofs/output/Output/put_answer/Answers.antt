use Rattle.std.proofs.lemmas.Result.{MatchResult-from_err}
use Rattle.listing.specs.Listing.{shown}
use Rattle.listing.specs.Outputs.{held}
use Rattle.listing.proofs.Held.{cut_line}
use Rattle.listing.proofs.output.Output.put_answer.Goals as goal

pub returns-in_err-make_room-clause-appended : goal.returns-in_err-make_room-clause-appended
returns-in_err-make_room-clause-appended g c =
    MatchResult-from_err c.from_residual.result _ _ c.from_residual.ensures.0
    (λ e. cut_line (held c.args.self.now) (shown c.args.number c.args.answer) _ _ c.in_err-make_room.ensures.appended)
