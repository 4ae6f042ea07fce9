-- The questions before a call, in their order: the first that is answered no gives the refusal.
use Rattle.std.specs.Prelude.{ℕ, Bool, cond, ◌&&◌, length, Some, None, Option, ◌==◌, nat_le, nat_lt}
use Rattle.lines.specs.declared.place.Right.{Right}
use Rattle.lines.specs.Rights.{is_right, same_right}
use Rattle.lines.specs.declared.place.Place.{Place}
use Rattle.lines.specs.declared.place.Place.TheVariants.{Rest, Inside, Next}
use Rattle.calls.specs.declared.refusal.Refusal.{Refusal}
use Rattle.calls.specs.declared.refusal.Refusal.TheVariants.{Shut, NoTask, Busy, Finished, OffLine, Outside, PassOut, OtherRight, OtherLock, NoPass, Upgrades, NoRow, Thickness}
use Rattle.calls.specs.declared.record.Record.{Record}
use Rattle.calls.specs.States.{State, record_of}

abbrev pub ask : Bool → Refusal → Option Refusal → Option Refusal
ask b e others = cond b others (Some e)

-- on the lock and the task
abbrev pub task_refusal : State → ℕ → Option Refusal
task_refusal s t = ask s.opened Shut (ask (nat_le 1 t) NoTask (ask (nat_le t (length s.records)) NoTask None))

-- begin, on the task's record
abbrev pub begin_refusal_at : Place → ℕ → Option Refusal
begin_refusal_at Rest finished = ask (nat_lt finished 1000000) Finished None
begin_refusal_at Inside finished = Some Busy
begin_refusal_at (Next l) finished = Some Busy

abbrev pub begin_refusal : Record → Option Refusal
begin_refusal r = begin_refusal_at r.track.place r.account.finished

-- advance, on the task's place
abbrev pub advance_refusal_at : Place → Option Refusal
advance_refusal_at Rest = Some OffLine
advance_refusal_at Inside = Some OffLine
advance_refusal_at (Next l) = None

abbrev pub advance_refusal : Record → Option Refusal
advance_refusal r = advance_refusal_at r.track.place

-- take, on the right that the task has and the pass that is out to it, for the right wanted
abbrev pub take_refusal : Option Right → Option Right → Right → Option Refusal
take_refusal None out w = Some Outside
take_refusal (Some v) (Some x) w = Some PassOut
take_refusal (Some v) None w = ask (same_right v w) OtherRight None

-- whether the pass that is out is for this right
abbrev pub out_for : Option Right → Right → Bool
out_for out w = is_right out w

-- whether such a pass is out to that task
abbrev pub is_out : State → Right → ℕ → Bool
is_out s w t = (nat_le 1 t && nat_le t (length s.records)) && out_for (record_of s t).out w

-- on the lock and a pass, which bears a right, a lock number and a task
abbrev pub pass_refusal : State → Right → ℕ → ℕ → Option Refusal
pass_refusal s w number t = ask s.opened Shut (ask (number == s.number) OtherLock (ask (is_out s w t) NoPass None))

-- upgrade, on the task's record
abbrev pub upgrade_refusal : Record → Option Refusal
upgrade_refusal r = ask (nat_lt r.account.u 1000) Upgrades None

-- on a row of a table with so many
abbrev pub row_refusal : ℕ → ℕ → Option Refusal
row_refusal row rows = ask (nat_lt row rows) NoRow None

-- on a thickness
abbrev pub thickness_refusal : ℕ → Option Refusal
thickness_refusal n = ask (nat_le 1 n) Thickness (ask (nat_le n 1000000) Thickness None)
