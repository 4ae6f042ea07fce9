use Rattle.std.proofs.Common.{refl, rules}
use Rattle.calls.specs.Steps.{leave, no}
use Rattle.lock.specs.Answers.{said}
use Rattle.lock.proofs.ByTask.{kept_out, settled, spending}
use Rattle.lock.proofs.locks.Lock.leave_with.Goals as goal

pub settle-requires : goal.settle-requires
settle-requires g c = kept_out g.M.Memory g.Q.Queue g.R.Bears.right c.args.task (leave g.R.Bears.right) c.args.self.now c.take.new.self c.leave-made.new.self c.in_ok-pass.pass c.in_ok-pass.ensures.does c.leave-made.result c.leave-made.ensures.back c.leave-made.ensures.does

pub returns-in_err-pass : goal.returns-in_err-pass
returns-in_err-pass g c = spending g.M.Memory g.Q.Queue c.args.task c.args.self.now (said c.from_residual.result) c.take.new.self g.R.Bears.right (leave g.R.Bears.right) (no c.in_err-pass.field-0.0, c.take.new.self, c.in_err-pass.ensures.does, (search rules, refl))

pub returns : goal.returns
returns g c = settled g.M.Memory g.Q.Queue g.R.Bears.right c.args.task (leave g.R.Bears.right) c.args.self.now c.take.new.self c.leave-made.new.self c.in_ok-pass.pass c.in_ok-pass.ensures.does c.leave-made.result c.leave-made.ensures.back c.leave-made.ensures.does (said c.settle.result) c.settle.new.self c.settle.ensures
