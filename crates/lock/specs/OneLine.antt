-- The one line that an obeyed call does.
use Rattle.std.specs.Prelude.{◌≡◌, ℕ, ◌≤◌, ◌≢◌, cond, Some, None, Option}
use Rattle.lines.specs.declared.deed.Deed.{Deed}
use Rattle.lines.specs.declared.deed.Deed.TheVariants.{Nothing}
use Rattle.lines.specs.declared.place.Line.{Line}
use Rattle.lines.specs.declared.place.Place.{Place}
use Rattle.lines.specs.declared.place.Place.TheVariants.{Next}
use Rattle.lines.specs.declared.track.Track.{Track}
use Rattle.lines.specs.Deeds.{cells_after, finds, waiting_after}
use Rattle.lines.specs.Lines.{deed_of, settle}
use Rattle.lines.specs.Starts.{begin_line, downgrade_line, leave_line, upgrade_line}
use Rattle.calls.specs.States.{State, record_of}
use Rattle.calls.specs.Steps.{Call, advance, begin, downgrade, leave, upgrade}
use Rattle.lock.specs.Runs.{Made, task_of, was_obeyed}

-- the line that a task at this place is before, if it is before one
abbrev pub next_line : Place → Option Line
next_line (Next l) = Some l
next_line p = None

-- the line that a call does where it is obeyed, by its task's track: advance does the next one, and four calls the first one of a way
abbrev pub line_of : Call → Track → Option Line
line_of (begin t) r = Some (begin_line r.role)
line_of (advance t) r = next_line r.place
line_of (upgrade k t) r = Some upgrade_line
line_of (downgrade k t) r = Some (downgrade_line r.standing)
line_of (leave w k t) r = Some (leave_line r.role r.standing)
line_of c r = None

-- the line that a call did, by the state before it: none where it was refused
abbrev pub line_done : State → Made → Option Line
line_done z e = cond (was_obeyed e.answer) (line_of e.call (record_of z (task_of e.call)).track) None

-- the deed of this line for task t on the track r, or none
abbrev pub deed_for : Option Line → ℕ → Track → Deed
deed_for None t r = Nothing
deed_for (Some l) t r = deed_of l t r

-- the deed that a call did, by the state before it
abbrev pub deed_done : State → Made → Deed
deed_done z e = deed_for (line_done z e) (task_of e.call) (record_of z (task_of e.call)).track

-- From z to y task t did this line: its one deed on the cells and the queue, and what the line makes of the task by what the deed found;
-- no other task moved. Or no line was done, and nothing of this is moved.
abbrev pub Did : ℕ → Option Line → State → State → Type 0
Did t None z y = (y.cells ≡ z.cells) × (y.waiting ≡ z.waiting) × ((u : ℕ) → (record_of y u).track ≡ (record_of z u).track)
Did t (Some l) z y =
    let r = (record_of z t).track in
    let deed = deed_of l t r in
    (y.cells ≡ cells_after deed z.cells)
    × (y.waiting ≡ waiting_after deed t z.waiting)
    × ((record_of y t).track ≡ settle l r (finds deed t z.cells z.waiting))
    × ((u : ℕ) → 1 ≤ u → u ≢ t → (record_of y u).track ≡ (record_of z u).track)
