use Rattle.std.proofs.Common.{◌≡◌, ℕ, ◌+◌, List, None, Some, Option, Result, refl, sym, ap, ◌∙◌, subst, rules, arith}
use Rattle.listing.specs.Written.{TookBytes}
use Rattle.calls.specs.declared.refusal.Refusal.{Refusal as LockRefusal}
use Rattle.listing.specs.declared.answer.Answer.{Answer}
use Rattle.script.specs.Calls.{Ask, parse}
use Rattle.script.specs.Reading.{to_come}
use Rattle.schedule.specs.declared.desk.Desk.{Desk}
use Rattle.schedule.specs.Desks.{Board, LocksTell, board, tables}
use Rattle.schedule.specs.Listing.{reply_bytes}
use Rattle.schedule.specs.Progress.{GivesLine, Progress, progress}
use Rattle.schedule.specs.Replies.{Heard, heard}
use Rattle.schedule.proofs.Printed.{next_is}
use Rattle.schedule.proofs.Runs.{line_keeps, line_seen}
use Rattle.schedule.proofs.schedule.Schedule.line_bytes.Goals as goal

abbrev Told : Desk → Ask → Result Answer LockRefusal → Desk → Type 0
Told d a o e = LocksTell d.locks a o e.locks

pub returns-clause-gives : goal.returns-clause-gives
returns-clause-gives c =
    let s = c.args.self.now in
    let text = c.in-Some-next_line.text.now in
    let line = c.in-Some-next_line.ensures in
    let q = c.next_line.new.self in
    let r = heard c.obey_line.result in
    let seen = line_seen Told (λ (d : Desk). board d.locks) (λ d a o e t. t.0) (parse text) s.desk.now c.obey_line.new.server r c.obey_line.ensures.obeys in
    let told : s.untold ≡ None = search rules in
    let still : c.take.new.self ≡ None = search rules in
    let is = next_is (progress s) text (to_come q) told line.first in
    let number : c.number-number.result ≡ s.reader.number + 1 = c.number-number.ensures.value ∙ line.counted in
    let bytes = ap (λ k. reply_bytes k r) number ∙ ap (λ (z : Heard × Board). reply_bytes (s.reader.number + 1) z.0) seen in
    let took = subst (λ bs. TookBytes c.args.out.now bs c.put_reply-2.result c.put_reply-2.new.out) bytes c.put_reply-2.ensures in (
      omega arith,
      subst (λ (z : Option (List ℕ) × Progress). GivesLine z.0 c.args.out.now (Some c.put_reply-2.result) c.put_reply-2.new.out) (sym is) took,
      (λ i. record { untold = (still ∙ sym told) i; number = line.counted i; left = to_come q; board = ap (λ (z : Heard × Board). z.1) seen i }) ∙ ap (λ (z : Option (List ℕ) × Progress). z.1) (sym is),
    )

pub returns-clause-same : goal.returns-clause-same
returns-clause-same c = (
  refl,
  line_keeps Told (λ (d : Desk). tables d.locks) (λ d a o e t. t.1) (parse c.in-Some-next_line.text.now) c.args.self.now.desk.now c.obey_line.new.server (heard c.obey_line.result) c.obey_line.ensures.obeys,
)
