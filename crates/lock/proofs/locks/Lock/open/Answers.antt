use Rattle.std.proofs.Common.{refl, rules}
use Rattle.calls.specs.Opening.{Opens}
use Rattle.lock.specs.View.{open_refused, view}
use Rattle.lock.proofs.Opened.{open_with, opened_is, opened_then, opens}
use Rattle.lock.proofs.Promised.{opened_promises, opened_where}
use Rattle.lock.proofs.CostRuns.{opened_cost}
use Rattle.lock.proofs.locks.Lock.open.Goals as goal

pub returns-clause-opens : goal.returns-clause-opens
returns-clause-opens g c =
    let m = g.M.Memory in
    let s = c.args.self.now in
    let roles = c.args.roles.now in
    let asked = c.in_ok-ask_open.ensures in
    let wrote = c.in_ok-set_cells.ensures in
    let opened = open_with _ roles c.enlist_all.ensures asked.1.0 in
    let now = opened_is m.cells m.top m.does g.met.M.Memory.kept (view m g.Q.Queue s) _ s.memory _ roles wrote refl (g.met.M.Memory.seven s.memory) refl opened refl c.enlist_all.ensures refl in
    (opens m.does (open_refused m g.Q.Queue s roles) (view m g.Q.Queue s) _ s.memory _ roles asked.0 wrote now, refl)

pub returns-clause-opened : goal.returns-clause-opened
returns-clause-opened g c =
    let s = c.args.self.now in
    let roles = c.args.roles.now in
    opened_where g.M.Memory g.Q.Queue s roles (open_refused g.M.Memory g.Q.Queue s roles) _ _ _ refl (returns-clause-opens g c).0

pub returns-in_err-ask_open-clause-opened : goal.returns-in_err-ask_open-clause-opened
returns-in_err-ask_open-clause-opened g c =
    let m = g.M.Memory in
    let s = c.args.self.now in
    let roles = c.args.roles.now in
    let before = view m g.Q.Queue s in
    let refused : Opens m.does (open_refused m g.Q.Queue s roles) before s.memory roles c.from_residual.result before s.memory = search rules in
    opened_where m g.Q.Queue s roles (open_refused m g.Q.Queue s roles) before s.memory c.from_residual.result refl refused

pub returns-clause-promises : goal.returns-clause-promises
returns-clause-promises g c =
    let m = g.M.Memory in
    let s = c.args.self.now in
    let roles = c.args.roles.now in
    let before = view m g.Q.Queue s in
    let asked = c.in_ok-ask_open.ensures in
    opened_promises m.limit (m.top s.memory) before _ roles asked.0 (opened_then m.does (open_refused m g.Q.Queue s roles) before _ s.memory _ roles _ asked.0 (returns-clause-opens g c).0) m.does _

pub returns-clause-cost_bound : goal.returns-clause-cost_bound
returns-clause-cost_bound g c = λ masks charges.
    let m = g.M.Memory in
    let s = c.args.self.now in
    let roles = c.args.roles.now in
    opened_cost m.does masks m.top
    (λ a b t op share d. record { within = charges.share a b t op share d; left = charges.copies a b t op share d; same_ceiling = (g.met.M.Memory.kept a b t op share d).2 }) m.limit
    (open_refused m g.Q.Queue s roles) (view m g.Q.Queue s) _ s.memory _ roles _ refl (charges.seven s.memory) (returns-clause-opens g c).0
