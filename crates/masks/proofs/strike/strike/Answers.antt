-- One more set is done in each turn.
use Rattle.std.proofs.Common.{get_or, set, ap, ◌∙◌, arith}
use Rattle.std.proofs.lemmas.List.Edits.{map_over_more}
use Rattle.std.proofs.lemmas.List.{get_or_default}
use Rattle.sets.specs.Sets.{taken_out}
use Rattle.masks.proofs.strike.strike.Goals as goal

pub loop-set-preserved : goal.loop-set-preserved
loop-set-preserved c =
    let xs = c.args.sets.now in
    let ys = c.loop-set.sets in
    let i = c.loop-set.set-index in
    let x = get_or ys i 0 in
    ap (set ys i) c.without_task.ensures ∙ map_over_more (λ m. taken_out m c.args.task) xs ys i x c.loop-set-test.true c.loop-set.invariant (get_or_default ys i 0 x (omega (arith, c.loop-set.auto.sets)))
