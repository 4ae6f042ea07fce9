-- What a call needs so that it is obeyed, by its task and the calls before it, and what it answers then.
use Rattle.std.specs.Prelude.{◌≡◌, ℕ, ◌<◌, ◌≤◌, Some, None, Option}
use Rattle.lines.specs.declared.place.Line.{Line}
use Rattle.lines.specs.declared.place.Place.{Place}
use Rattle.lines.specs.declared.place.Place.TheVariants.{Rest, Next}
use Rattle.lines.specs.declared.place.Right.{Right}
use Rattle.lines.specs.declared.place.Right.TheVariants.{Reading, Writing}
use Rattle.lines.specs.declared.track.Track.{Track}
use Rattle.lines.specs.Rights.{right_of}
use Rattle.calls.specs.Refusals.{refusal_number}
use Rattle.calls.specs.Steps.{Answer, Call, advance, begin, done, downgrade, gives, hands, lay_back, leave, no, put, read, take, upgrade}
use Rattle.lock.specs.History.{History}
use Rattle.lock.specs.Runs.{task_of}

-- a task is before a line
abbrev pub OnLine : Place → Type 0
OnLine p = (l : Line) × (p ≡ Next l)

-- a pass of the lock with the number k, for the right w, is of the lock with this number, and is the one that is out
abbrev pub HasPass : ℕ → ℕ → Option Right → Right → Type 0
HasPass number k out w = (k ≡ number) × (out ≡ Some w)

-- what a call needs of its task and its other arguments, on the lock with this number and so many rows: r is the task's track, and h
-- its history
abbrev pub NeedsOfTask : ℕ → ℕ → History → Track → Call → Type 0
NeedsOfTask number rows h r (begin t) = (r.place ≡ Rest) × (h.begins < 1000000)
NeedsOfTask number rows h r (advance t) = OnLine r.place
NeedsOfTask number rows h r (take w t) = (right_of r ≡ Some w) × (h.out ≡ None)
NeedsOfTask number rows h r (lay_back w k t) = HasPass number k h.out w
NeedsOfTask number rows h r (upgrade k t) = HasPass number k h.out Reading × (h.upgrades < 1000)
NeedsOfTask number rows h r (downgrade k t) = HasPass number k h.out Writing
NeedsOfTask number rows h r (leave w k t) = HasPass number k h.out w
NeedsOfTask number rows h r (read w k t row) = HasPass number k h.out w × (row < rows)
NeedsOfTask number rows h r (put k t row n) = HasPass number k h.out Writing × (row < rows) × (1 ≤ n) × (n ≤ 1000000)

-- all that a call needs, on a lock with so many tasks
abbrev pub Needs : ℕ → ℕ → ℕ → History → Track → Call → Type 0
Needs number tasks rows h r c = (1 ≤ task_of c) × (task_of c ≤ tasks) × NeedsOfTask number rows h r c

-- What an obeyed call answers, on the lock with this number: take hands out the pass that it was asked for, read tells of the row, and
-- the others say no more than that they were obeyed.
abbrev pub AnswersSo : ℕ → Call → Answer → Type 0
AnswersSo number (take w t) a = a ≡ hands w number t
AnswersSo number (read w k t row) a = (o : Option ℕ) × (a ≡ gives o)
AnswersSo number c a = a ≡ done

-- a call was refused with this number
abbrev pub IsRefused : Answer → ℕ → Type 0
IsRefused (no e) k = refusal_number e ≡ k
IsRefused a k = ⊥

-- the only refusal that can come of a call that has what it needs: of a read, that the row is damaged
abbrev pub RefusedAsDamaged : Call → Answer → Type 0
RefusedAsDamaged (read w k t row) a = IsRefused a 32
RefusedAsDamaged c a = ⊥
