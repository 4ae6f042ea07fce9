-- A power of two put in is the task put in, and no other.
use Rattle.std.proofs.Common.{◌≡◌, sym, ap, ◌∙◌, subst}
use lib.Bits.{bit_or}
use Rattle.sets.specs.Sets.{Joins, put_in}
use Rattle.sets.proofs.Bit.{bit_put}
use Rattle.sets.proofs.Known.{task_bounds, put_in_task}
use Rattle.sets.proofs.Put.{joined_sum, joins}
use Rattle.sets.proofs.tasks.with_task.Goals as goal

pub returns : goal.returns
returns c =
    let s = c.args.set in
    let t = c.args.task in
    let value : bit_or s c.bit.result ≡ put_in s t = ap (bit_or s) c.bit.ensures ∙ bit_put s t in
    record {
      value = value;
      joins = λ task. let b = task_bounds t task in subst (Joins s t) (sym (value ∙ put_in_task s t b.0 b.1)) (joins s t b.0);
      sum = λ task none. let b = task_bounds t task in value ∙ put_in_task s t b.0 b.1 ∙ joined_sum s t none;
    }
