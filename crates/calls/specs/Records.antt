-- The record of a task: its track through the lines, its account, and the right of the pass that is out to it.
use Rattle.std.specs.Prelude.{ℕ, ◌+◌, ◌*◌, Bool, true, false, cond, not, ◌&&◌, ◌||◌, Some, None, Option, nat_le, nat_lt}
use Rattle.lines.specs.declared.deed.Found.{Found}
use Rattle.lines.specs.declared.place.Place.{Place}
use Rattle.lines.specs.declared.place.Place.TheVariants.{Rest, Inside, Next}
use Rattle.lines.specs.declared.place.Right.{Right}
use Rattle.lines.specs.declared.place.Right.TheVariants.{Writing}
use Rattle.lines.specs.declared.place.Role.{Role}
use Rattle.lines.specs.declared.place.Role.TheVariants.{Reader, Writer}
use Rattle.lines.specs.declared.place.Standing.{Standing}
use Rattle.lines.specs.declared.track.Track.{Track}
use Rattle.lines.specs.Classes.{between}
use Rattle.lines.specs.Lines.{at_rest, goes, stepped}
use Rattle.lines.specs.Numbers.{code}
use Rattle.lines.specs.Rights.{is_right, right_inside, right_of, same_right}
use Rattle.lines.specs.Starts.{begin_line, upgrade_line, downgrade_line, leave_line}
use Rattle.calls.specs.declared.account.Account.{Account}
use Rattle.calls.specs.declared.record.Record.{Record}
use Rattle.calls.specs.Accounts.{unpaid, restarted, charged, closed, one_more_upgrade, one_more_downgrade}

-- a task of this role that never began
abbrev pub fresh : Role → Record
fresh o = record { track = at_rest o; account = unpaid; out = None }

-- the record with this pass out
abbrev pub with_out : Record → Option Right → Record
with_out r o = record { track = r.track; account = r.account; out = o }

-- Where a call moves a task, its record as it stands before the call's line.

-- an attempt begins
abbrev pub begun : Record → Record
begun r = record { track = goes r.track (begin_line r.track.role); account = restarted r.account; out = r.out }

-- the other three spend the pass that is out

abbrev pub upgrading : Record → Record
upgrading r = record { track = goes r.track upgrade_line; account = one_more_upgrade r.account; out = None }

abbrev pub downgrading : Record → Record
downgrading r = record { track = goes r.track (downgrade_line r.track.standing); account = one_more_downgrade r.account; out = None }

abbrev pub leaving : Record → Record
leaving r = record { track = goes r.track (leave_line r.track.role r.track.standing); account = r.account; out = None }

-- the account of a task that came to a place: at rest its attempt is finished
abbrev pub arrived : Place → Account → Account
arrived Rest a = closed a
arrived Inside a = a
arrived (Next l) a = a

-- the next line was done, found f and told its share
abbrev pub settled : Record → Found → ℕ → Record
settled r f share = record { track = stepped r.track f; account = arrived (stepped r.track f).place (charged r.account share); out = r.out }

-- What every record of a lock keeps, so that its numbers are exact.

-- whether a task is at rest
abbrev pub rests_at : Place → Bool
rests_at Rest = true
rests_at Inside = false
rests_at (Next l) = false

-- the account of a task at this place adds up: at most 1,000,000 attempts are finished, fewer while one runs, and none cost
-- more than a cost can be
abbrev pub finishes_fit : Place → Account → Bool
finishes_fit p a = nat_le a.finished 1000000 && ((rests_at p || nat_lt a.finished 1000000) && nat_le a.total (a.finished * 4294967295))

abbrev pub sound : Record → Bool
sound r = finishes_fit r.track.place r.account

-- whether the writing right is ahead of a task on this line without another upgrade: of a writer but on the lines
-- of downgrade and leave (7, 8, 25.1 to 26.1, 28.1 to 32.1), and of any task on the lines of upgrade
abbrev pub ahead_line : Role → ℕ → Bool
ahead_line Writer n = not (between 70 80 n || (between 251 261 n || (between 281 321 n || between 1281 1282 n)))
ahead_line Reader n = between 271 275 n

abbrev pub ahead_at : Place → Role → Standing → Bool
ahead_at Rest o s = false
ahead_at Inside o s = same_right (right_inside o s) Writing
ahead_at (Next l) o s = ahead_line o (code l)

abbrev pub writing_ahead : Track → Bool
writing_ahead r = ahead_at r.place r.role r.standing

-- at most 1,000 upgrades, and downgrades no more often than the writing right was there: at first, and by each upgrade
abbrev pub changes_fit : Bool → Account → Bool
changes_fit ahead a = nat_le a.u 1000 && nat_le (a.g + cond ahead 1 0) (a.u + 1)

-- a pass is out only for the right that the task has
abbrev pub pass_fits : Option Right → Option Right → Bool
pass_fits has None = true
pass_fits has (Some w) = is_right has w

-- the record is sound, its changes fit, and so does its pass
unfoldable pub in_order : Record → Bool
in_order r = sound r && (changes_fit (writing_ahead r.track) r.account && pass_fits (right_of r.track) r.out)
