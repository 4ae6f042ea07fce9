use Rattle.std.proofs.Common.{◌-◌, ◌<◌, set, sym, ap, ◌∙◌, arith, rules}
use Rattle.std.proofs.lemmas.List.{get_or-take}
use Rattle.lines.specs.declared.place.Role.TheVariants.{Reader}
use Rattle.calls.specs.declared.record.Record.{Record}
use Rattle.calls.specs.Questions.{advance_refusal}
use Rattle.calls.specs.Records.{fresh, in_order, settled}
use Rattle.calls.proofs.Sound.{fresh_in_order, settled_in_order}
use Rattle.lock.specs.View.{record_at, records_of}
use Rattle.lock.proofs.Kept.{first_set, pass_at, pass_set}
use Rattle.lock.proofs.records.Records.settle.Goals as goal

pub invariant_of-self : goal.invariant_of-self
invariant_of-self c =
    let s = c.args.self.now in
    let i = c.args.number - 1 in
    let r = record_at s.all c.args.number in
    let within : i < s.count = search (rules, arith) in
    let ready = ap advance_refusal (sym (get_or-take s.count s.all i (fresh Reader) within)) ∙ c.requires.on_line in
    let ordered = pass_at in_order s.all i (fresh Reader) (fresh_in_order Reader) s.ordered in
    let kept = ap in_order c.settle_one.ensures ∙ settled_in_order r c.args.told.found c.args.told.share ordered ready in
    record { places = search rules; fits = search rules; ordered = pass_set in_order s.all _ _ s.ordered kept }

pub returns-clause-is : goal.returns-clause-is
returns-clause-is c =
    let s = c.args.self.now in
    let i = c.args.number - 1 in
    let within : i < s.count = search (rules, arith) in
    let own = get_or-take s.count s.all i (fresh Reader) within in
    first_set s.count s.all _ _ ∙ ap (set (records_of s) i) (c.settle_one.ensures ∙ ap (λ (r : Record). settled r c.args.told.found c.args.told.share) (sym own))
