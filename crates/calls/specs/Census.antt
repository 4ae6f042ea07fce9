-- How many tasks there are of each class.
use Rattle.std.specs.Prelude.{ℕ, ◌+◌, ◌<◌, Bool, cond, List, count_by}
use Rattle.lines.specs.declared.track.Track.{Track}
use Rattle.lines.specs.Classes.{in_section, is_counted, has_upgraded, is_upgrading, is_writing_normally, may_write}
use Rattle.calls.specs.declared.record.Record.{Record}
use Rattle.calls.specs.declared.census.Census.{Census}

-- how many tasks are of a class
abbrev pub tasks_that : (Track → Bool) → List Record → ℕ
tasks_that p tasks = count_by (λ r. p r.track) tasks

abbrev pub census_of : List Record → Census
census_of tasks =
    record {
      counted = tasks_that is_counted tasks;
      section = tasks_that in_section tasks;
      writing = tasks_that may_write tasks;
      upgrading = tasks_that is_upgrading tasks;
      upgraded = tasks_that has_upgraded tasks;
      normal = tasks_that is_writing_normally tasks;
    }

-- one more where the task is of the class
abbrev pub more : ℕ → Bool → ℕ
more n b = n + cond b 1 0

abbrev pub joined_by : Census → Track → Census
joined_by c r =
    record {
      counted = more c.counted (is_counted r);
      section = more c.section (in_section r);
      writing = more c.writing (may_write r);
      upgrading = more c.upgrading (is_upgrading r);
      upgraded = more c.upgraded (has_upgraded r);
      normal = more c.normal (is_writing_normally r);
    }

-- each count is of fewer than 64 tasks
pub record Room (c : Census) : Type 0 where
  pub counted : c.counted < 64
  pub section : c.section < 64
  pub writing : c.writing < 64
  pub upgrading : c.upgrading < 64
  pub upgraded : c.upgraded < 64
  pub normal : c.normal < 64
