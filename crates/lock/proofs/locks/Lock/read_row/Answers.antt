use Rattle.std.proofs.Common.{◌≡◌, Some, Ok, sym, ◌∙◌, subst, rules}
use Rattle.lines.specs.declared.place.Right.TheVariants.{Reading, Writing}
use Rattle.lock.specs.Answers.{row_told}
use Rattle.lock.specs.ByTask.{ByPlan, read_plan}
use Rattle.lock.proofs.locks.Lock.read_row.Goals as goal

pub returns-in-Ok-Some-Reading-clause-by_plan : goal.returns-in-Ok-Some-Reading-clause-by_plan
returns-in-Ok-Some-Reading-clause-by_plan g c =
    let has : c.right.result ≡ Ok (Some Reading) = search rules in
    subst (λ o. ByPlan g.M.Memory g.Q.Queue (read_plan o c.args.task c.args.row) c.args.task c.args.self.now (row_told c.read_with.result) c.read_with.new.self) (sym has ∙ c.right.ensures) c.read_with.ensures.by_plan

pub returns-in-Ok-Some-Writing-clause-by_plan : goal.returns-in-Ok-Some-Writing-clause-by_plan
returns-in-Ok-Some-Writing-clause-by_plan g c =
    let has : c.right.result ≡ Ok (Some Writing) = search rules in
    subst (λ o. ByPlan g.M.Memory g.Q.Queue (read_plan o c.args.task c.args.row) c.args.task c.args.self.now (row_told c.read_with-in-Ok-Some-Writing.result) c.read_with-in-Ok-Some-Writing.new.self) (sym has ∙ c.right.ensures) c.read_with-in-Ok-Some-Writing.ensures.by_plan
