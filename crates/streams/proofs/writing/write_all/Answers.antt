use Rattle.std.proofs.Common.{arith, length-drop}
use Rattle.std.proofs.lemmas.List.{take_rest}
use Rattle.std.proofs.lemmas.Result.{MatchResult-from_err}
use Rattle.streams.proofs.Passed.{appends_kept, cut_at, wrote_more}
use Rattle.streams.proofs.writing.write_all.Goals as goal

pub returns-in_err-at : goal.returns-in_err-at
returns-in_err-at g c =
    MatchResult-from_err c.from_residual.result _ _ c.from_residual.ensures.0
    (λ e. cut_at c.args.bytes.now c.loop-at.at _ _ (appends_kept _ _ _ _ c.loop-at.invariant.1 c.in_err-at.ensures.bytes))

pub loop-at-preserved : goal.loop-at-preserved
loop-at-preserved g c =
    let all = c.args.bytes.now in
    let at = c.loop-at.at in
    (omega (arith, rw (take_rest all at) at c.in_ok-at.ensures.count.0, length-drop at all), wrote_more all at c.in_ok-at.field-0 _ _ _ c.loop-at.invariant.1 c.in_ok-at.ensures.bytes)
