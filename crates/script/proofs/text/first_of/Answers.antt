use Rattle.std.proofs.Common.{◌==◌, eqb, take, sym, ◌∙◌, arith, w8}
use Rattle.std.proofs.lemmas.Simd.{bitmask_splat, length-chunk}
use Rattle.script.proofs.Marks.{lowest_mark, none_marked}
use Rattle.script.proofs.text.first_of.Goals as goal

pub returns-then-marks-ne0 : goal.returns-then-marks-ne0
returns-then-marks-ne0 g c =
    let s = c.args.text.now in
    let n = g.row.N in
    let marks = bitmask_splat w8 eqb (take n s) n c.args.mark (length-chunk 0 n s (omega (arith, c.requires.long))) c.requires.lanes in
    lowest_mark (λ x. x == c.args.mark) n s _ c.requires.lanes c.requires.long marks (omega arith)

pub returns : goal.returns
returns g c =
    let s = c.args.text.now in
    let n = g.row.N in
    let marks = bitmask_splat w8 eqb (take n s) n c.args.mark (length-chunk 0 n s (omega (arith, c.requires.long))) c.requires.lanes in
    none_marked (λ x. x == c.args.mark) n s c.requires.long (sym marks ∙ c.if-marks-ne0.false)
