-- The check of a state: six rules over cells and tasks from anywhere, in their order.
use Rattle.std.specs.Prelude.{ℕ, Bool, cond, ◌&&◌, ◌||◌, List, length, Some, None, Ok, Option, Result, ◌==◌, nat_le, slice_index}
use Rattle.std.specs.Bool.{beq}
use Rattle.lines.specs.Lines.{C, D, Gate, X, Permit, U, V}
use Rattle.lines.specs.Classes.{in_section, is_counted, has_upgraded, is_upgrading, is_writing_normally, may_write}
use Rattle.calls.specs.declared.record.Record.{Record}
use Rattle.calls.specs.declared.refusal.Refusal.{Refusal}
use Rattle.calls.specs.declared.refusal.Refusal.TheVariants.{Roles}
use Rattle.calls.specs.declared.rule.Rule.{Rule}
use Rattle.calls.specs.declared.rule.Rule.TheVariants.{Ranges, Count, Exclusion, Upgrade, CellU, CellX}
use Rattle.calls.specs.Census.{tasks_that}
use Rattle.calls.specs.Questions.{ask}
use Rattle.calls.specs.Told.{told}

-- C and X are from 0 to the number n of tasks, U from 0 to 2, and D, Gate, Permit and V 0 or 1
abbrev pub keeps_ranges : List ℕ → ℕ → Bool
keeps_ranges cells n =
    nat_le (slice_index cells C) n && nat_le (slice_index cells X) n && nat_le (slice_index cells U) 2 && nat_le (slice_index cells D) 1 && nat_le (slice_index cells Gate) 1 && nat_le (slice_index cells Permit) 1 && nat_le (slice_index cells V) 1

-- C is the number of counted tasks
abbrev pub keeps_count : List ℕ → List Record → Bool
keeps_count cells tasks = slice_index cells C == tasks_that is_counted tasks

-- beside a task with the writing right no other is in the section: that task is there itself, so there is at most one
abbrev pub keeps_exclusion : List Record → Bool
keeps_exclusion tasks = tasks_that may_write tasks == 0 || nat_le (tasks_that in_section tasks) 1

-- at most one task is upgrading or upgraded
abbrev pub keeps_upgrade : List Record → Bool
keeps_upgrade tasks = nat_le (tasks_that is_upgrading tasks) 1

-- U is 2 exactly when one task is upgraded
abbrev pub keeps_u : List ℕ → List Record → Bool
keeps_u cells tasks = beq (slice_index cells U == 2) (tasks_that has_upgraded tasks == 1)

-- X is 0 while a normal writer is inside
abbrev pub keeps_x : List ℕ → List Record → Bool
keeps_x cells tasks = tasks_that is_writing_normally tasks == 0 || slice_index cells X == 0

-- the rule k where it is not kept, else what the others come to
abbrev pub unless : Bool → Rule → Option Rule → Option Rule
unless kept k others = cond kept others (Some k)

-- the first broken rule
abbrev pub broken_rule : List ℕ → List Record → Option Rule
broken_rule cells tasks =
    unless (keeps_ranges cells (length tasks)) Ranges (
    unless (keeps_count cells tasks) Count (
    unless (keeps_exclusion tasks) Exclusion (
    unless (keeps_upgrade tasks) Upgrade (
    unless (keeps_u cells tasks) CellU (
    unless (keeps_x cells tasks) CellX None)))))

-- the answer where no rule is broken
abbrev pub passed : Result (Option Rule) Refusal
passed = Ok None

-- are there 1 to 64 tasks?
abbrev pub state_refusal : List Record → Option Refusal
state_refusal tasks = ask (nat_le 1 (length tasks)) Roles (ask (nat_le (length tasks) 64) Roles None)

abbrev pub state_checked : List ℕ → List Record → Result (Option Rule) Refusal
state_checked cells tasks = told (state_refusal tasks) (broken_rule cells tasks)
