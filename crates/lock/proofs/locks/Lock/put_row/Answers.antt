use Rattle.std.proofs.Common.{refl, ◌∙◌, rules}
use Rattle.lines.specs.declared.place.Right.TheVariants.{Writing}
use Rattle.calls.specs.Steps.{no, put}
use Rattle.calls.proofs.Obeyed.{put_passes}
use Rattle.lock.specs.Answers.{said}
use Rattle.lock.specs.View.{view}
use Rattle.lock.proofs.ByTask.{showing, shown, taken_out}
use Rattle.lock.proofs.locks.Lock.put_row.Goals as goal

-- a put leaves the pass out, obeyed or not
pub put_back-requires : goal.put_back-requires
put_back-requires g c =
    let p = c.in_ok-pass.pass in
    let m = c.take.new.self in
    let n = c.put-made.new.self in
    put_passes g.M.Memory.does g.M.Memory.limit (view g.M.Memory g.Q.Queue m) (view g.M.Memory g.Q.Queue n) m.memory n.memory p.lock p.task c.args.row c.args.thickness (said c.put-made.result) c.put-made.ensures.0 Writing p.lock p.task
    ∙ taken_out g.M.Memory g.Q.Queue Writing c.args.task c.args.self.now m p c.in_ok-pass.ensures.does

pub returns-in_err-pass : goal.returns-in_err-pass
returns-in_err-pass g c = showing g.M.Memory g.Q.Queue c.args.task c.args.self.now (said c.from_residual.result) c.take.new.self Writing (λ k u. put k u c.args.row c.args.thickness) (no c.in_err-pass.field-0.0, c.take.new.self, c.in_err-pass.ensures.does, (search rules, refl))

pub returns : goal.returns
returns g c = shown g.M.Memory g.Q.Queue Writing c.args.task (λ k u. put k u c.args.row c.args.thickness) c.args.self.now c.take.new.self c.put-made.new.self c.in_ok-pass.pass c.in_ok-pass.ensures.does (said c.put-made.result) c.put-made.ensures c.put_back.new.self c.put_back.ensures
