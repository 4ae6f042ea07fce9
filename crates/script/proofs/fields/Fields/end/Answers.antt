use Rattle.std.proofs.Common.{rules}
use Rattle.script.proofs.Pieces.{some_field}
use Rattle.script.proofs.fields.Fields.end.Goals as goal

pub returns-in-Some : goal.returns-in-Some
returns-in-Some c = search (rules, some_field c.in-Some.field-0.now)
