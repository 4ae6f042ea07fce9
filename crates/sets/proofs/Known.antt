-- The numbers of tasks, and membership and putting in of any number where it is a task's.
use Rattle.std.proofs.Common.{◌≡◌, ℕ, ◌≤◌, true, leb}
use Rattle.std.proofs.lemmas.Bool.{and_parts, leb-true, le-leb}
use Rattle.sets.specs.Sets.{holds, joined, is_task, contained, put_in}

pub task_bounds : (t : ℕ) → is_task t ≡ true → (1 ≤ t) × (t ≤ 64)
task_bounds t h = let p = and_parts (leb 1 t) (leb t 64) h in (leb-true 1 t p.0, leb-true t 64 p.1)

pub contained_task : (set t : ℕ) → 1 ≤ t → t ≤ 64 → contained set t ≡ holds set t
contained_task set t low high = rw (le-leb 1 t low, le-leb t 64 high)

pub put_in_task : (set t : ℕ) → 1 ≤ t → t ≤ 64 → put_in set t ≡ joined set t
put_in_task set t low high = rw (le-leb 1 t low, le-leb t 64 high)
