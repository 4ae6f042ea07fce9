use Rattle.std.proofs.Common.{◌-◌, ltb, set, refl, ap, ◌∙◌, arith, rules}
use Rattle.std.proofs.lemmas.List.{get_or-set_same, set-set}
use Rattle.lines.specs.declared.place.Role.TheVariants.{Reader}
use Rattle.calls.specs.declared.record.Record.{Record}
use Rattle.calls.specs.Records.{fresh, settled}
use Rattle.lock.specs.View.{record_at, records_of, view}
use Rattle.lock.proofs.Done.{line_done}
use Rattle.lock.proofs.locks.Lock.do_line.Goals as goal

pub returns : goal.returns
returns g c =
    let m = g.M.Memory in
    let s = c.args.self.now in
    let k = c.args.ready.task in
    let told = c.in_ok-told.told in
    let p = c.in_ok-told.ensures in
    let rs = records_of s.records in
    let i = k.number - 1 in
    let own = c.put.ensures.is in
    let same = get_or-set_same rs i k.state (fresh Reader) (search (rules, arith)) in
    let y = settled k.state told.found told.share in
    let records = c.settle.ensures.is ∙ ap (λ z. set z i (settled (record_at z k.number) told.found told.share)) own ∙ ap (λ (r : Record). set (set rs i k.state) i (settled r told.found told.share)) same ∙ set-set rs i k.state y in
    (line_done m.limit m.does (view m g.Q.Queue s) _ _ _ k.number k.state _ _ _ y refl p.0 p.1 p.2 refl refl (ap (ltb 0) (c.settle.ensures.count ∙ c.put.ensures.count)) p.3 p.4 records refl, refl)
