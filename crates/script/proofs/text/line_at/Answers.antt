use Rattle.std.proofs.Common.{◌<◌, length, arith, rules}
use Rattle.std.proofs.lemmas.Bool.Decides.{nat_tests}
use Rattle.std.proofs.lemmas.List.{take_rest}
use Rattle.script.proofs.Pieces.{next_line, last_line}
use Rattle.script.proofs.text.line_at.Goals as goal

pub returns-in-Some : goal.returns-in-Some
returns-in-Some c =
    let s = c.args.input.now in
    let at = c.args.at in
    let some : at < length s = grind (arith, nat_tests) in
    search (rules, next_line s at some, take_rest s at)

pub returns-in-Some-far : goal.returns-in-Some-far
returns-in-Some-far c =
    let s = c.args.input.now in
    let at = c.args.at in
    let some : at < length s = grind (arith, nat_tests) in
    let end = rw take_rest at c.in-Some-far.ensures in
    search (rules, next_line s at some, take_rest s at, end.0, end.1)

pub returns-in-None : goal.returns-in-None
returns-in-None c =
    let s = c.args.input.now in
    let at = c.args.at in
    let some : at < length s = grind (arith, nat_tests) in
    let none = rw take_rest at c.in-None.ensures in
    search (rules, last_line s at some none, take_rest s at)
