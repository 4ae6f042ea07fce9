-- The costliest task: the greatest of the costs, and the first task that has it.
use Rattle.std.specs.Prelude.{◌≡◌, ℕ, suc, ◌+◌, ◌-◌, ◌<◌, ◌≤◌, max, cond, List, [], ◌∷◌, map, length, Some, None, Option, ◌==◌, slice_index_or}
use Rattle.lines.specs.declared.place.Role.TheVariants.{Reader}
use Rattle.calls.specs.declared.record.Record.{Record}
use Rattle.calls.specs.Records.{fresh}

abbrev pub costs : List Record → List ℕ
costs tasks = map (λ r. r.account.cost) tasks

-- the greatest of the numbers
abbrev pub greatest : List ℕ → ℕ
greatest [] = 0
greatest (n ∷ ns) = max n (greatest ns)

-- the first place, from 0 on, that has this number
abbrev pub first_with : ℕ → List ℕ → ℕ
first_with n [] = 0
first_with n (m ∷ ms) = cond (m == n) 0 (suc (first_with n ms))

-- the task at a place has the next number
abbrev pub costliest_task : List Record → Option ℕ
costliest_task tasks = cond (length tasks == 0) None (Some (first_with (greatest (costs tasks)) (costs tasks) + 1))

-- the cost of task t
abbrev pub cost_of : List Record → ℕ → ℕ
cost_of tasks t = (slice_index_or tasks (t - 1) (fresh Reader)).account.cost

-- task t is one of the tasks, none costs more, and each with a lower number costs less
pub record CostsMost (tasks : List Record) (t : ℕ) : Type 0 where
  pub from : 1 ≤ t
  pub upto : t ≤ length tasks
  pub most : (k : ℕ) → 1 ≤ k → k ≤ length tasks → cost_of tasks k ≤ cost_of tasks t
  pub first : (k : ℕ) → 1 ≤ k → k < t → cost_of tasks k < cost_of tasks t

abbrev pub IsCostliest : List Record → Option ℕ → Type 0
IsCostliest tasks None = length tasks ≡ 0
IsCostliest tasks (Some t) = CostsMost tasks t
