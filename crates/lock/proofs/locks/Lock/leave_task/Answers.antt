use Rattle.std.proofs.Common.{◌≡◌, Some, Ok, sym, ◌∙◌, subst, rules}
use Rattle.lines.specs.declared.place.Right.TheVariants.{Reading, Writing}
use Rattle.lock.specs.Answers.{said}
use Rattle.lock.specs.ByTask.{ByPlan, leave_plan}
use Rattle.lock.proofs.locks.Lock.leave_task.Goals as goal

pub returns-in-Ok-Some-Reading : goal.returns-in-Ok-Some-Reading
returns-in-Ok-Some-Reading g c =
    let has : c.right.result ≡ Ok (Some Reading) = search rules in
    subst (λ o. ByPlan g.M.Memory g.Q.Queue (leave_plan o c.args.task) c.args.task c.args.self.now (said c.leave_with.result) c.leave_with.new.self) (sym has ∙ c.right.ensures) c.leave_with.ensures

pub returns-in-Ok-Some-Writing : goal.returns-in-Ok-Some-Writing
returns-in-Ok-Some-Writing g c =
    let has : c.right.result ≡ Ok (Some Writing) = search rules in
    subst (λ o. ByPlan g.M.Memory g.Q.Queue (leave_plan o c.args.task) c.args.task c.args.self.now (said c.leave_with-in-Ok-Some-Writing.result) c.leave_with-in-Ok-Some-Writing.new.self) (sym has ∙ c.right.ensures) c.leave_with-in-Ok-Some-Writing.ensures
