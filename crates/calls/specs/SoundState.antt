-- A sound state: what the six rules say of each task and of each two tasks.
use Rattle.std.specs.Prelude.{◌≡◌, ℕ, ◌<◌, ◌≤◌, Bool, true, false, List, length, ◌≢◌, slice_index, slice_index_or}
use Rattle.lines.specs.declared.place.Role.TheVariants.{Reader}
use Rattle.lines.specs.declared.track.Track.{Track}
use Rattle.lines.specs.Lines.{C, D, Gate, X, Permit, U, V}
use Rattle.lines.specs.Classes.{in_section, is_counted, has_upgraded, is_upgrading, is_writing_normally, may_write}
use Rattle.calls.specs.declared.record.Record.{Record}
use Rattle.calls.specs.Census.{tasks_that}
use Rattle.calls.specs.Records.{fresh}

-- whether the task at place i, from 0 on, is of a class
abbrev pub at_place : (Track → Bool) → List Record → ℕ → Bool
at_place p tasks i = p (slice_index_or tasks i (fresh Reader)).track

-- while a task is of the class q, no other is of the class p
abbrev pub Alone : (q p : Track → Bool) → List Record → Type 0
Alone q p tasks = (i j : ℕ) → i < length tasks → j < length tasks → (i ≢ j) → at_place q tasks i ≡ true → at_place p tasks j ≡ false

pub record SoundState (cells : List ℕ) (tasks : List Record) : Type 0 where
  pub ranges : (slice_index cells C ≤ length tasks) × (slice_index cells X ≤ length tasks) × (slice_index cells U ≤ 2) × (slice_index cells D ≤ 1) × (slice_index cells Gate ≤ 1) × (slice_index cells Permit ≤ 1) × (slice_index cells V ≤ 1)
  pub count : slice_index_or cells C 0 ≡ tasks_that is_counted tasks
  -- beside a task with the writing right no other is in the section
  pub exclusion : Alone may_write in_section tasks
  pub one_upgrade : Alone is_upgrading is_upgrading tasks
  -- U is 2 exactly when some task is upgraded
  pub upgraded : (slice_index cells U ≡ 2 → (i : ℕ) × (i < length tasks) × (at_place has_upgraded tasks i ≡ true)) × ((i : ℕ) → i < length tasks → at_place has_upgraded tasks i ≡ true → slice_index cells U ≡ 2)
  pub writer : (i : ℕ) → i < length tasks → at_place is_writing_normally tasks i ≡ true → slice_index cells X ≡ 0
