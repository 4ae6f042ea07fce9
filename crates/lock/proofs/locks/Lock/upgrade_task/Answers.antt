use Rattle.std.proofs.Common.{refl, rules}
use Rattle.lines.specs.declared.place.Right.TheVariants.{Reading}
use Rattle.calls.specs.Steps.{upgrade, no}
use Rattle.lock.specs.Answers.{said}
use Rattle.lock.proofs.ByTask.{kept_out, settled, spending}
use Rattle.lock.proofs.locks.Lock.upgrade_task.Goals as goal

pub settle-requires : goal.settle-requires
settle-requires g c = kept_out g.M.Memory g.Q.Queue Reading c.args.task upgrade c.args.self.now c.take.new.self c.upgrade-made.new.self c.in_ok-pass.pass c.in_ok-pass.ensures.does c.upgrade-made.result c.upgrade-made.ensures.back c.upgrade-made.ensures.does

pub returns-in_err-pass : goal.returns-in_err-pass
returns-in_err-pass g c = spending g.M.Memory g.Q.Queue c.args.task c.args.self.now (said c.from_residual.result) c.take.new.self Reading upgrade (no c.in_err-pass.field-0.0, c.take.new.self, c.in_err-pass.ensures.does, (search rules, refl))

pub returns : goal.returns
returns g c = settled g.M.Memory g.Q.Queue Reading c.args.task upgrade c.args.self.now c.take.new.self c.upgrade-made.new.self c.in_ok-pass.pass c.in_ok-pass.ensures.does c.upgrade-made.result c.upgrade-made.ensures.back c.upgrade-made.ensures.does (said c.settle.result) c.settle.new.self c.settle.ensures
