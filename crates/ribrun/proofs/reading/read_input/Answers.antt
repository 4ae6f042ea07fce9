use Rattle.std.proofs.Common.{◌≡◌, ◌∙◌, take, length, ap, arith, length-take-le}
use Rattle.std.proofs.lemmas.Result.{MatchResult-from_err}
use Rattle.ribrun.proofs.Enough.{cut_piece, long_input, moved_more, whole_input}
use Rattle.ribrun.proofs.reading.read_input.Goals as goal

pub returns-then-count-eq0 : goal.returns-then-count-eq0
returns-then-count-eq0 g c =
    let room = c.read_some.new.room in
    let long : length room ≡ 4096 = c.read_some.auto.room ∙ c.loop-taken.invariant.sized in
    let given = c.in_ok-count.ensures.bytes in
    whole_input _ _ _ _ _ c.loop-taken.taken (take c.in_ok-count.count room) c.loop-taken.invariant.moved given.0 (ap (λ n. take n room) c.if-count-eq0.true) (given.1 c.if-count-eq0.true (omega arith)) c.loop-taken-test.true

pub returns-in_err-write_all : goal.returns-in_err-write_all
returns-in_err-write_all g c =
    let room = c.read_some.new.room in
    let long : length room ≡ 4096 = c.read_some.auto.room ∙ c.loop-taken.invariant.sized in
    let is = length-take-le c.in_ok-count.count room c.in_ok-count.ensures.bound.0 in
    MatchResult-from_err c.from_residual-in_err-write_all.result _ _ c.from_residual-in_err-write_all.ensures.0
    (λ e. cut_piece _ _ _ _ _ _ c.loop-taken.taken (take c.in_ok-count.count room) c.loop-taken.invariant.moved c.in_ok-count.ensures.bytes.0 c.in_err-write_all.ensures c.loop-taken-test.true (omega (arith, is, c.in_ok-count.ensures.bound.0)))

pub loop-taken-preserved : goal.loop-taken-preserved
loop-taken-preserved g c =
    let room = c.read_some.new.room in
    let long : length room ≡ 4096 = c.read_some.auto.room ∙ c.loop-taken.invariant.sized in
    let is = length-take-le c.in_ok-count.count room c.in_ok-count.ensures.bound.0 in
    record {
      moved = moved_more _ _ _ _ _ _ c.loop-taken.taken c.in_ok-count.count (take c.in_ok-count.count room) c.loop-taken.invariant.moved c.in_ok-count.ensures.bytes.0 c.in_ok-write_all.ensures is;
      bounded = omega (arith, c.in_ok-count.ensures.bound.0, c.loop-taken-test.true);
      sized = long;
    }

pub returns : goal.returns
returns g c = long_input _ _ _ _ c.loop-taken.taken c.loop-taken.invariant.moved c.loop-taken-test.false c.loop-taken.invariant.bounded
