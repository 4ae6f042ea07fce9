use Rattle.std.proofs.Common.{rules}
use Rattle.script.proofs.Numerals.{led_by_number, no_digit, other_after}
use Rattle.script.proofs.fields.Fields.number.Goals as goal

pub returns-in_err-n : goal.returns-in_err-n
returns-in_err-n c = search (rules, no_digit c.in_ok-text.text.now c.in_err-n.ensures.0)

pub returns-in_err-self : goal.returns-in_err-self
returns-in_err-self c =
    search (rules, other_after c.in_ok-text.text.now c.in_ok-n.more.now c.in_ok-n.n c.in_err-self.field-0.0 c.in_ok-n.ensures c.in_err-self.ensures)

pub returns : goal.returns
returns c = search (rules, led_by_number c.in_ok-text.text.now c.in_ok-n.more.now c.in_ok-n.n c.in_ok-self.field-0 c.in_ok-n.ensures c.in_ok-self.ensures)
