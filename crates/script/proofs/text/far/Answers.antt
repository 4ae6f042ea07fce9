use Rattle.std.proofs.Common.{◌≡◌, ◌+◌, ◌*◌, ◌/◌, length, drop, None, Some, arith, length-drop}
use Rattle.std.proofs.lemmas.List.{take_rest, drop-drop}
use Rattle.script.specs.Cuts.{before}
use Rattle.script.proofs.Marks.{found}
use Rattle.script.proofs.text.far.Goals as goal

pub returns-in-Some : goal.returns-in-Some
returns-in-Some c =
    let s = c.args.text.now in
    let at = 64 * c.loop-i.i in
    let near = rw take_rest at c.in-Some.ensures in
    (omega (arith, near.0, c.loop-i.invariant), omega (arith, near.1, length-drop at s))

pub loop-i-preserved : goal.loop-i-preserved
loop-i-preserved c =
    let s = c.args.text.now in
    let at = 64 * c.loop-i.i in
    let none = rw take_rest at c.in_default.ensures in
    let past = rw (drop-drop 64 at s) at none in
    let next : at + 64 ≡ 64 * (c.loop-i.i + 1) = omega arith in
    let far : before c.args.mark s ≡ at + 64 + before c.args.mark (drop (at + 64) s) = omega (arith, past, c.loop-i.invariant) in
    rw next at far

pub returns-in-Some-memchr : goal.returns-in-Some-memchr
returns-in-Some-memchr c =
    let s = c.args.text.now in
    let all : c.loop-i.i ≡ length s / 64 = omega arith in
    let far = rw all at c.loop-i.invariant in
    let end = found c.args.mark (drop (64 * (length s / 64)) s) (Some c.in-Some-memchr.end) (rw take_rest at c.in-Some-memchr.ensures) in
    (omega (arith, far, end.0), omega (arith, end.1, length-drop (64 * (length s / 64)) s))

pub returns-in-None : goal.returns-in-None
returns-in-None c =
    let s = c.args.text.now in
    let all : c.loop-i.i ≡ length s / 64 = omega arith in
    let far = rw all at c.loop-i.invariant in
    let end = found c.args.mark (drop (64 * (length s / 64)) s) None (rw take_rest at c.in-None.ensures) in
    omega (arith, far, end, length-drop (64 * (length s / 64)) s)
