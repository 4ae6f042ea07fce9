-- Sets of tasks as numbers, in which bit t - 1 stands for the task t.
use Rattle.std.specs.Prelude.{◌≡◌, ℕ, zero, suc, ◌+◌, ◌-◌, ◌/◌, ◌%◌, ◌^◌, ◌≤◌, Bool, true, cond, ◌&&◌, ◌==◌, ◌≢◌, bit_or, nat_le}

-- whether a task is in the set
abbrev pub holds : ℕ → ℕ → Bool
holds set t = (set / 2 ^ (t - 1) % 2) == 1

-- the set with a task put in
abbrev pub joined : ℕ → ℕ → ℕ
joined set t = bit_or set (2 ^ (t - 1))

-- a task was put in, and of every other task it is as it was
abbrev pub Joins : ℕ → ℕ → ℕ → Type 0
Joins set t set' = (holds set' t ≡ true) × ((other : ℕ) → 1 ≤ other → (other ≢ t) → holds set' other ≡ holds set other)

-- the set with a task taken out
abbrev pub without : ℕ → ℕ → ℕ
without set t = cond (holds set t) (set - 2 ^ (t - 1)) set

-- how many of the tasks from 1 to n are in a set
abbrev pub count_to : ℕ → ℕ → ℕ
count_to zero set = 0
count_to (suc n) set = count_to n set + cond (holds set (suc n)) 1 0

-- whether a number is that of a task
abbrev pub is_task : ℕ → Bool
is_task t = nat_le 1 t && nat_le t 64

-- the number of the set of one task, 0 where the number is no task's
abbrev pub bit : ℕ → ℕ
bit t = cond (is_task t) (2 ^ (t - 1)) 0

-- the same three of any number: one that is no task's is in no set, and neither put in nor taken out
abbrev pub contained : ℕ → ℕ → Bool
contained set t = is_task t && holds set t

abbrev pub put_in : ℕ → ℕ → ℕ
put_in set t = cond (is_task t) (joined set t) set

abbrev pub taken_out : ℕ → ℕ → ℕ
taken_out set t = cond (is_task t) (without set t) set
