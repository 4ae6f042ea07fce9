use Rattle.std.proofs.Common.{refl, rules}
use Rattle.calls.specs.Steps.{no, read}
use Rattle.lock.specs.Answers.{row_told}
use Rattle.lock.proofs.ByTask.{reads_same, showing, shown, taken_out}
use Rattle.lock.proofs.locks.Lock.read_with.Goals as goal

pub put_back-requires : goal.put_back-requires
put_back-requires g c = taken_out g.M.Memory g.Q.Queue g.R.Bears.right c.args.task c.args.self.now c.take.new.self c.in_ok-pass.pass c.in_ok-pass.ensures.does

pub returns-in_err-pass : goal.returns-in_err-pass
returns-in_err-pass g c =
    let p = showing g.M.Memory g.Q.Queue c.args.task c.args.self.now (row_told c.from_residual.result) c.take.new.self g.R.Bears.right (λ k u. read g.R.Bears.right k u c.args.row)
    (no c.in_err-pass.field-0.0, c.take.new.self, c.in_err-pass.ensures.does, (search rules, refl)) in
    record { by_plan = p; same = reads_same g.M.Memory g.Q.Queue c.args.task c.args.self.now (row_told c.from_residual.result) c.take.new.self g.R.Bears.right c.args.row p.follows }

pub returns : goal.returns
returns g c =
    let p = shown g.M.Memory g.Q.Queue g.R.Bears.right c.args.task (λ k u. read g.R.Bears.right k u c.args.row) c.args.self.now c.take.new.self c.take.new.self c.in_ok-pass.pass c.in_ok-pass.ensures.does (row_told c.read-found.result) c.read-found.ensures.does c.put_back.new.self c.put_back.ensures in
    record { by_plan = p; same = reads_same g.M.Memory g.Q.Queue c.args.task c.args.self.now (row_told c.read-found.result) c.put_back.new.self g.R.Bears.right c.args.row p.follows }
