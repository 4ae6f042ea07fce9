use Rattle.std.proofs.Common.{Some, None, ◌+◌, rules}
use Rattle.std.proofs.lemmas.List.{take_rest}
use Rattle.script.proofs.Marks.{found}
use Rattle.script.proofs.Pieces.{ended_field, last_field}
use Rattle.script.proofs.fields.Fields.next.Goals as goal

pub returns-in-Some : goal.returns-in-Some
returns-in-Some c =
    let text = c.in_ok-text.text.now in
    let end = c.in-Some.end in
    let mark = found 32 text (Some end) c.in-Some.ensures in
    search (rules, ended_field text end mark.0 mark.1, take_rest text (end + 1))

pub returns-in-None : goal.returns-in-None
returns-in-None c =
    let text = c.in_ok-text.text.now in
    search (rules, last_field text (found 32 text None c.in-None.ensures))
