use Rattle.std.proofs.Common.{rules}
use Rattle.script.proofs.Numerals.{front_numeral, front_zero}
use Rattle.script.proofs.numbers.numeral.Goals as goal

pub returns : goal.returns
returns c =
    let front = front_numeral c.in_ok-first.first.now c.in_ok-first.later.now c.digits.result.1.now c.digits.result.0 (search rules) c.if-first-eq48.false c.digits.ensures.value c.digits.ensures.rest in
    search (rules, front)

pub returns-then-first-eq48 : goal.returns-then-first-eq48
returns-then-first-eq48 c = search (rules, front_zero c.in_ok-first.later.now)
