-- How far a schedule is run, and what is left of its listing.
use Rattle.std.specs.Prelude.{◌≡◌, ℕ, ◌+◌, ◌<◌, ◌≤◌, cond, List, [], ◌∷◌, ◌++◌, length, Some, None, Ok, Err, Option, Result, nat_le}
use Rattle.script.specs.declared.refusal.Refusal.{Refusal as LineRefusal}
use Rattle.script.specs.declared.refusal.Refusal.TheVariants.{Length}
use Rattle.script.specs.Calls.{parse}
use Rattle.script.specs.Cuts.{lines}
use Rattle.script.specs.Reading.{to_come}
use Rattle.listing.specs.declared.refusal.Refusal.TheVariants.{Room}
use Rattle.listing.specs.Written.{TookBytes}
use Rattle.schedule.specs.declared.refusal.Refusal.{Refusal}
use Rattle.schedule.specs.declared.refusal.Refusal.TheVariants.{Listing}
use Rattle.schedule.specs.declared.schedule.Schedule.{Schedule}
use Rattle.schedule.specs.Desks.{Board, board, tables}
use Rattle.schedule.specs.Listing.{reply_bytes, whole_refused}
use Rattle.schedule.specs.Meaning.{listed}
use Rattle.schedule.specs.Replies.{board_after, replied}

pub record Progress : Type 0 where
  -- why the input is refused as a whole, until a line of the listing has told it
  pub untold : Option LineRefusal
  -- how many lines are done, which are left, and the board as those have left it
  pub number : ℕ
  pub left : List (List ℕ)
  pub board : Board

-- a schedule of the code
abbrev pub progress : Schedule → Progress
progress s = record { untold = s.untold; number = s.reader.number; left = to_come s.reader; board = board s.desk.now.locks }

-- at the same desk, over the same tables
abbrev pub SameDesk : Schedule → Schedule → Type 0
SameDesk s t = (t.desk.ghost_name ≡ s.desk.ghost_name) × (tables t.desk.now.locks ≡ tables s.desk.now.locks)

-- before its first line: an input that is too long has no line
abbrev pub begun : List ℕ → Board → Progress
begun input b =
    cond (nat_le (length input) 65536) (record { untold = None; number = 0; left = lines input; board = b }) (record { untold = Some Length; number = 0; left = []; board = b })

-- once these lines are done, with those left
abbrev pub after : List (List ℕ) → List (List ℕ) → Progress → Progress
after done left p = record { untold = p.untold; number = p.number + length done; left = left; board = board_after p.board done }

-- once it is told why the input is refused, if it is
abbrev pub whole_told : Progress → Progress
whole_told p = record { untold = None; number = p.number; left = p.left; board = p.board }

-- the bytes of the next line of the listing, or none where it is at its end, and how far it is then
abbrev pub next_line : Option LineRefusal → List (List ℕ) → Progress → Option (List ℕ) × Progress
next_line (Some e) ls p = (Some (whole_refused e), whole_told p)
next_line None [] p = (None, p)
next_line None (l ∷ ls) p = (Some (reply_bytes (p.number + 1) (replied (parse l) p.board).0), after (l ∷ []) ls p)

abbrev pub next : Progress → Option (List ℕ) × Progress
next p = next_line p.untold p.left p

-- the bytes of what is left to be told of the input as a whole, and of these lines that are done next
abbrev pub untold_bytes : Option LineRefusal → List ℕ
untold_bytes None = []
untold_bytes (Some e) = whole_refused e

abbrev pub bytes_of : List (List ℕ) → Progress → List ℕ
bytes_of done p = untold_bytes p.untold ++ listed p.number p.board done

-- a line's bytes were asked for: the buffer d has the room, and took them, or all stays as it was
abbrev pub GivesLine : Option (List ℕ) → List ℕ → Option ℕ → List ℕ → Type 0
GivesLine None d None o = o ≡ d
GivesLine None d (Some count) o = ⊥
GivesLine (Some bs) d None o = ⊥
GivesLine (Some bs) d (Some count) o = TookBytes d bs count o

abbrev pub Gives : Schedule → List ℕ → Result (Option ℕ) Refusal → Schedule → List ℕ → Type 0
Gives s d (Ok given) t o = (65552 ≤ length d) × GivesLine (next (progress s)).0 d given o × (progress t ≡ (next (progress s)).1)
Gives s d (Err e) t o = (length d < 65552) × (e ≡ Listing Room) × (progress t ≡ progress s) × (o ≡ d)
