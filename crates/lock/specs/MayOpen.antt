-- When a lock is opened.
use Rattle.std.specs.Prelude.{◌≡◌, ℕ, ◌<◌, ◌≤◌, ◌⊎◌, List, [], length, slice_index}
use Rattle.memory.specs.declared.interface.Memory.{Ghosts as MemoryGhosts}
use Rattle.queue.specs.declared.interface.Queue.{Ghosts as QueueGhosts}
use Rattle.lock.specs.declared.locks.Lock.{Lock}
use Rattle.lock.specs.View.{records_of}

-- What opening a lock with these roles needs: it is closed, there are 1 to 64 roles, each the byte R or W, the memory's limit is at
-- least 2 and at least their number, its ceiling is at most 1000, and nobody waits.
pub record MayOpen {M Q : Type 0} (mem : MemoryGhosts M) (que : QueueGhosts Q) (l : Lock M Q) (roles : List ℕ) : Type 0 where
  pub closed : length (records_of l.records) ≡ 0
  pub some : 1 ≤ length roles
  pub few : length roles ≤ 64
  pub each : (i : ℕ) → i < length roles → (slice_index roles i ≡ 82) ⊎ (slice_index roles i ≡ 87)
  pub two : 2 ≤ mem.limit
  pub fits : length roles ≤ mem.limit
  pub ceiling : mem.top l.memory ≤ 1000
  pub empty : que.waiting l.queue ≡ []

-- what holds of the limit and the roles once the questions before opening are asked, so that task 1 can write the cells
abbrev pub HasRoom : ℕ → List ℕ → Type 0
HasRoom limit roles = (1 ≤ length roles) × (length roles ≤ 64) × (2 ≤ limit)
