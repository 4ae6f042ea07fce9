use Rattle.std.proofs.Common.{◌-◌, ltb, set, refl, ap, ◌∙◌}
use Rattle.calls.specs.declared.record.Record.{Record}
use Rattle.calls.specs.Records.{settled}
use Rattle.lock.specs.View.{records_of, view}
use Rattle.lock.proofs.Done.{line_done}
use Rattle.lock.proofs.locks.Lock.do_next.Goals as goal

pub returns : goal.returns
returns g c =
    let m = g.M.Memory in
    let s = c.args.self.now in
    let k = c.args.ready.task in
    let told = c.in_ok-told.told in
    let p = c.in_ok-told.ensures in
    let records = c.settle.ensures.is ∙ ap (λ (r : Record). set (records_of s.records) (k.number - 1) (settled r told.found told.share)) c.requires.in_place in
    (line_done m.limit m.does (view m g.Q.Queue s) _ _ _ k.number k.state _ _ _ _ refl p.0 p.1 p.2 refl refl (ap (ltb 0) c.settle.ensures.count) p.3 p.4 records refl, refl)
