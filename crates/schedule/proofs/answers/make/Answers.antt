use Rattle.std.proofs.Common.{◌≡◌, Err, Result, rules}
use Rattle.calls.specs.declared.refusal.Refusal.{Refusal}
use Rattle.calls.specs.Steps as calls
use Rattle.calls.specs.Told.{right_told}
use Rattle.cache.specs.Layers.{cached}
use Rattle.lock.specs.ByTask.{downgrade_plan, leave_plan, put_plan, read_plan, upgrade_plan}
use Rattle.lock.specs.View.{view}
use Rattle.lock.proofs.Answering.{stored}
use Rattle.schedule.specs.declared.answers.Done.{Done}
use Rattle.schedule.proofs.Told.{does, follows}
use Rattle.schedule.proofs.answers.make.Goals as goal

pub returns-in_err-begin-in-Begin-clause-tells : goal.returns-in_err-begin-in-Begin-clause-tells
returns-in_err-begin-in-Begin-clause-tells g c =
    let is : ◌≡◌ {A = Result Done Refusal} c.from_residual-in_err-begin-in-Begin.result (Err c.in_err-begin-in-Begin.field-0.0) = search rules in
    rw (c.in-Begin.is, is) (does g.Q.Queue g.S.Store.LIMIT g.S.Store.numbers c.in-Begin.task (calls.begin c.in-Begin.task) (calls.no c.in_err-begin-in-Begin.field-0.0) c.args.lock.now c.begin.new.self c.in_err-begin-in-Begin.ensures)

pub returns-in_ok-begin-in-Begin-clause-tells : goal.returns-in_ok-begin-in-Begin-clause-tells
returns-in_ok-begin-in-Begin-clause-tells g c = rw c.in-Begin.is (does g.Q.Queue g.S.Store.LIMIT g.S.Store.numbers c.in-Begin.task (calls.begin c.in-Begin.task) calls.done c.args.lock.now c.begin.new.self c.in_ok-begin-in-Begin.ensures)

pub returns-in_err-advance-in-Advance-clause-tells : goal.returns-in_err-advance-in-Advance-clause-tells
returns-in_err-advance-in-Advance-clause-tells g c =
    let is : ◌≡◌ {A = Result Done Refusal} c.from_residual-in_err-advance-in-Advance.result (Err c.in_err-advance-in-Advance.field-0.0) = search rules in
    rw (c.in-Advance.is, is) (does g.Q.Queue g.S.Store.LIMIT g.S.Store.numbers c.in-Advance.task (calls.advance c.in-Advance.task) (calls.no c.in_err-advance-in-Advance.field-0.0) c.args.lock.now c.advance.new.self c.in_err-advance-in-Advance.ensures)

pub returns-in_ok-advance-in-Advance-clause-tells : goal.returns-in_ok-advance-in-Advance-clause-tells
returns-in_ok-advance-in-Advance-clause-tells g c = rw c.in-Advance.is (does g.Q.Queue g.S.Store.LIMIT g.S.Store.numbers c.in-Advance.task (calls.advance c.in-Advance.task) calls.done c.args.lock.now c.advance.new.self c.in_ok-advance-in-Advance.ensures)

pub returns-in_err-upgrade_task-in-Upgrade-clause-tells : goal.returns-in_err-upgrade_task-in-Upgrade-clause-tells
returns-in_err-upgrade_task-in-Upgrade-clause-tells g c =
    let is : ◌≡◌ {A = Result Done Refusal} c.from_residual-in_err-upgrade_task-in-Upgrade.result (Err c.in_err-upgrade_task-in-Upgrade.field-0.0) = search rules in
    rw (c.in-Upgrade.is, is) (follows g.Q.Queue g.S.Store.LIMIT g.S.Store.numbers c.in-Upgrade.task (upgrade_plan c.in-Upgrade.task) (calls.no c.in_err-upgrade_task-in-Upgrade.field-0.0) c.args.lock.now c.upgrade_task.new.self c.in_err-upgrade_task-in-Upgrade.ensures.follows)

pub returns-in_ok-upgrade_task-in-Upgrade-clause-tells : goal.returns-in_ok-upgrade_task-in-Upgrade-clause-tells
returns-in_ok-upgrade_task-in-Upgrade-clause-tells g c = rw c.in-Upgrade.is (follows g.Q.Queue g.S.Store.LIMIT g.S.Store.numbers c.in-Upgrade.task (upgrade_plan c.in-Upgrade.task) calls.done c.args.lock.now c.upgrade_task.new.self c.in_ok-upgrade_task-in-Upgrade.ensures.follows)

pub returns-in_err-downgrade_task-in-Downgrade-clause-tells : goal.returns-in_err-downgrade_task-in-Downgrade-clause-tells
returns-in_err-downgrade_task-in-Downgrade-clause-tells g c =
    let is : ◌≡◌ {A = Result Done Refusal} c.from_residual-in_err-downgrade_task-in-Downgrade.result (Err c.in_err-downgrade_task-in-Downgrade.field-0.0) = search rules in
    rw (c.in-Downgrade.is, is) (follows g.Q.Queue g.S.Store.LIMIT g.S.Store.numbers c.in-Downgrade.task (downgrade_plan c.in-Downgrade.task) (calls.no c.in_err-downgrade_task-in-Downgrade.field-0.0) c.args.lock.now c.downgrade_task.new.self c.in_err-downgrade_task-in-Downgrade.ensures.follows)

pub returns-in_ok-downgrade_task-in-Downgrade-clause-tells : goal.returns-in_ok-downgrade_task-in-Downgrade-clause-tells
returns-in_ok-downgrade_task-in-Downgrade-clause-tells g c = rw c.in-Downgrade.is (follows g.Q.Queue g.S.Store.LIMIT g.S.Store.numbers c.in-Downgrade.task (downgrade_plan c.in-Downgrade.task) calls.done c.args.lock.now c.downgrade_task.new.self c.in_ok-downgrade_task-in-Downgrade.ensures.follows)

pub returns-in_err-leave_task-in-Leave-clause-tells : goal.returns-in_err-leave_task-in-Leave-clause-tells
returns-in_err-leave_task-in-Leave-clause-tells g c =
    let is : ◌≡◌ {A = Result Done Refusal} c.from_residual-in_err-leave_task-in-Leave.result (Err c.in_err-leave_task-in-Leave.field-0.0) = search rules in
    rw (c.in-Leave.is, is) (follows g.Q.Queue g.S.Store.LIMIT g.S.Store.numbers c.in-Leave.task (leave_plan (right_told (view (cached (stored g.S.Store.LIMIT g.S.Store.numbers)) g.Q.Queue c.args.lock.now) c.in-Leave.task) c.in-Leave.task) (calls.no c.in_err-leave_task-in-Leave.field-0.0) c.args.lock.now c.leave_task.new.self c.in_err-leave_task-in-Leave.ensures.follows)

pub returns-in_ok-leave_task-in-Leave-clause-tells : goal.returns-in_ok-leave_task-in-Leave-clause-tells
returns-in_ok-leave_task-in-Leave-clause-tells g c = rw c.in-Leave.is (follows g.Q.Queue g.S.Store.LIMIT g.S.Store.numbers c.in-Leave.task (leave_plan (right_told (view (cached (stored g.S.Store.LIMIT g.S.Store.numbers)) g.Q.Queue c.args.lock.now) c.in-Leave.task) c.in-Leave.task) calls.done c.args.lock.now c.leave_task.new.self c.in_ok-leave_task-in-Leave.ensures.follows)

pub returns-in_err-read_row-in-Read-clause-tells : goal.returns-in_err-read_row-in-Read-clause-tells
returns-in_err-read_row-in-Read-clause-tells g c =
    let is : ◌≡◌ {A = Result Done Refusal} c.from_residual-in_err-read_row-in-Read.result (Err c.in_err-read_row-in-Read.field-0.0) = search rules in
    rw (c.in-Read.is, is) (follows g.Q.Queue g.S.Store.LIMIT g.S.Store.numbers c.in-Read.task (read_plan (right_told (view (cached (stored g.S.Store.LIMIT g.S.Store.numbers)) g.Q.Queue c.args.lock.now) c.in-Read.task) c.in-Read.task c.in-Read.row) (calls.no c.in_err-read_row-in-Read.field-0.0) c.args.lock.now c.read_row.new.self c.in_err-read_row-in-Read.ensures.by_plan.follows)

pub returns-in_ok-read_row-in-Read-clause-tells : goal.returns-in_ok-read_row-in-Read-clause-tells
returns-in_ok-read_row-in-Read-clause-tells g c = rw c.in-Read.is (follows g.Q.Queue g.S.Store.LIMIT g.S.Store.numbers c.in-Read.task (read_plan (right_told (view (cached (stored g.S.Store.LIMIT g.S.Store.numbers)) g.Q.Queue c.args.lock.now) c.in-Read.task) c.in-Read.task c.in-Read.row) (calls.gives c.in_ok-read_row-in-Read.field-0) c.args.lock.now c.read_row.new.self c.in_ok-read_row-in-Read.ensures.by_plan.follows)

pub returns-in_err-put_row-in-Put-clause-tells : goal.returns-in_err-put_row-in-Put-clause-tells
returns-in_err-put_row-in-Put-clause-tells g c =
    let is : ◌≡◌ {A = Result Done Refusal} c.from_residual-in_err-put_row-in-Put.result (Err c.in_err-put_row-in-Put.field-0.0) = search rules in
    rw (c.in-Put.is, is) (follows g.Q.Queue g.S.Store.LIMIT g.S.Store.numbers c.in-Put.task (put_plan c.in-Put.task c.in-Put.row c.in-Put.thickness) (calls.no c.in_err-put_row-in-Put.field-0.0) c.args.lock.now c.put_row.new.self c.in_err-put_row-in-Put.ensures.follows)

pub returns-in_ok-put_row-in-Put-clause-tells : goal.returns-in_ok-put_row-in-Put-clause-tells
returns-in_ok-put_row-in-Put-clause-tells g c = rw c.in-Put.is (follows g.Q.Queue g.S.Store.LIMIT g.S.Store.numbers c.in-Put.task (put_plan c.in-Put.task c.in-Put.row c.in-Put.thickness) calls.done c.args.lock.now c.put_row.new.self c.in_ok-put_row-in-Put.ensures.follows)
