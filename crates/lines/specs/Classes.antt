-- Classes of tasks by their places: in the section, counted, upgrading, upgraded and writing.
--
-- Lines stand in them by their codes, ten times the published number; 1282 is line 28.2 while downgrading.
use Rattle.std.specs.Prelude.{ℕ, Bool, true, false, not, ◌&&◌, ◌||◌, Some, None, Option, ◌==◌, nat_le}
use Rattle.lines.specs.declared.place.Right.{Right}
use Rattle.lines.specs.declared.place.Right.TheVariants.{Reading, Writing}
use Rattle.lines.specs.declared.place.Role.{Role}
use Rattle.lines.specs.declared.place.Role.TheVariants.{Reader, Writer}
use Rattle.lines.specs.declared.place.Standing.{Standing}
use Rattle.lines.specs.declared.place.Standing.TheVariants.{Normal, Upgraded, Downgraded}
use Rattle.lines.specs.declared.place.Place.{Place}
use Rattle.lines.specs.declared.place.Place.TheVariants.{Rest, Inside, Next}
use Rattle.lines.specs.declared.track.Track.{Track}
use Rattle.lines.specs.Numbers.{code}
use Rattle.lines.specs.Rights.{right_of}

-- from line a to line b
abbrev pub between : ℕ → ℕ → ℕ → Bool
between a b n = nat_le a n && nat_le n b

abbrev pub is_reader : Role → Bool
is_reader Reader = true
is_reader Writer = false

abbrev pub is_upgraded : Standing → Bool
is_upgraded Normal = false
is_upgraded Upgraded = true
is_upgraded Downgraded = false

abbrev pub is_normal_writer : Role → Standing → Bool
is_normal_writer Reader s = false
is_normal_writer Writer Normal = true
is_normal_writer Writer Upgraded = false
is_normal_writer Writer Downgraded = false

-- In the section: who holds the lock, inside or on the way from one standing to another.

abbrev pub section_line : ℕ → Bool
section_line n = between 252 253 n || (between 272 275 n || n == 1282)

abbrev pub section_at : Place → Bool
section_at Rest = false
section_at Inside = true
section_at (Next l) = section_line (code l)

abbrev pub in_section : Track → Bool
in_section r = section_at r.place

-- Counted: whom the lines have added to cell C and not yet taken off.

abbrev pub counted_line : Role → ℕ → Bool
counted_line o n = (is_reader o && between 161 222 n) || (between 252 253 n || (between 272 275 n || (n == 282 || (n == 1282 || n == 292))))

abbrev pub counted_at : Place → Role → Standing → Bool
counted_at Rest o s = false
counted_at Inside o s = not (is_normal_writer o s)
counted_at (Next l) o s = counted_line o (code l)

abbrev pub is_counted : Track → Bool
is_counted r = counted_at r.place r.role r.standing

-- Upgraded inside or at 28.2: those for whom cell U is 2.

abbrev pub upgraded_line : ℕ → Bool
upgraded_line n = n == 282 || n == 1282

abbrev pub upgraded_at : Place → Standing → Bool
upgraded_at Rest s = false
upgraded_at Inside s = is_upgraded s
upgraded_at (Next l) s = upgraded_line (code l)

abbrev pub has_upgraded : Track → Bool
has_upgraded r = upgraded_at r.place r.standing

-- Upgrading or upgraded: upgraded inside, or at 27.2 to 27.5 or 28.2.

abbrev pub upgrading_line : ℕ → Bool
upgrading_line n = between 272 275 n || upgraded_line n

abbrev pub upgrading_at : Place → Standing → Bool
upgrading_at Rest s = false
upgrading_at Inside s = is_upgraded s
upgrading_at (Next l) s = upgrading_line (code l)

abbrev pub is_upgrading : Track → Bool
is_upgrading r = upgrading_at r.place r.standing

-- A normal writer inside.

abbrev pub writes_at : Place → Role → Standing → Bool
writes_at Rest o s = false
writes_at Inside o s = is_normal_writer o s
writes_at (Next l) o s = false

abbrev pub is_writing_normally : Track → Bool
is_writing_normally r = writes_at r.place r.role r.standing

-- With the writing right.

abbrev pub is_writing : Option Right → Bool
is_writing None = false
is_writing (Some Reading) = false
is_writing (Some Writing) = true

abbrev pub may_write : Track → Bool
may_write r = is_writing (right_of r)
