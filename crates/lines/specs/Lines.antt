-- The lines: the one deed of each, and what it makes of its task by what it found.
use Rattle.std.specs.Prelude.{ℕ, ◌-◌, cond, ◌==◌}
use Rattle.memory.specs.declared.operation.Operation.TheVariants.{Read, Write, Add, Swap}
use Rattle.memory.specs.declared.operation.Step.TheVariants.{Up, Down}
use Rattle.lines.specs.declared.place.Role.{Role}
use Rattle.lines.specs.declared.place.Role.TheVariants.{Reader, Writer}
use Rattle.lines.specs.declared.place.Standing.{Standing}
use Rattle.lines.specs.declared.place.Standing.TheVariants.{Normal, Upgraded, Downgraded}
use Rattle.lines.specs.declared.place.Line.{Line}
use Rattle.lines.specs.declared.place.Line.TheVariants.{L0p1, L0p2, L1, L2, L3, L4, L6, L7, L8, L9, L10, L11, L12, L13, L14, L15, L16, L16p1, L17, L18, L19, L20, L21, L22, L22p1, L22p2, L23, L25p1, L25p2, L25p3, L26p1, L27p1, L27p2, L27p3, L27p4, L27p5, Down28p1, Down28p2, L28p1, L28p2, L29p2, L32p1}
use Rattle.lines.specs.declared.place.Place.{Place}
use Rattle.lines.specs.declared.place.Place.TheVariants.{Rest, Inside, Next}
use Rattle.lines.specs.declared.deed.Deed.{Deed}
use Rattle.lines.specs.declared.deed.Deed.TheVariants.{Touch, Join, First, Quit, Nothing}
use Rattle.lines.specs.declared.deed.Found.{Found}
use Rattle.lines.specs.declared.track.Track.{Track}
use Rattle.lines.specs.Found.{number_found, is_number, is_above_one, says_yes}

-- the cells by name
abbrev pub C : ℕ
C = 0

abbrev pub D : ℕ
D = 1

abbrev pub Gate : ℕ
Gate = 2

abbrev pub X : ℕ
X = 3

abbrev pub Permit : ℕ
Permit = 4

abbrev pub U : ℕ
U = 5

abbrev pub V : ℕ
V = 6

-- the one deed of a line, for the task t on the track r
abbrev pub deed_of : Line → ℕ → Track → Deed
deed_of L0p1 t r = Join
deed_of L0p2 t r = First
deed_of L1 t r = Touch (Read D)
deed_of L2 t r = Nothing
deed_of L3 t r = Touch (Write D r.curr)
deed_of L4 t r = Touch (Write Permit 0)
deed_of L6 t r = Touch (Read Permit)
deed_of L7 t r = Touch (Write Gate r.curr)
deed_of L8 t r = Touch (Write X t)
deed_of L9 t r = Touch (Read X)
deed_of L10 t r = Nothing
deed_of L11 t r = Touch (Swap X r.x t)
deed_of L12 t r = Touch (Read Permit)
deed_of L13 t r = Touch (Read C)
deed_of L14 t r = Touch (Swap X t 0)
deed_of L15 t r = Touch (Write Permit 1)
deed_of L16 t r = Touch (Add C Up)
deed_of L16p1 t r = Touch (Swap U 1 0)
deed_of L17 t r = Touch (Read D)
deed_of L18 t r = Touch (Read X)
deed_of L19 t r = Nothing
deed_of L20 t r = Touch (Swap X r.x t)
deed_of L21 t r = Touch (Read X)
deed_of L22 t r = Touch (Read Gate)
deed_of L22p1 t r = Touch (Read U)
deed_of L22p2 t r = Touch (Read V)
deed_of L23 t r = Touch (Add C Down)
deed_of L25p1 t r = Touch (Add C Up)
deed_of L25p2 t r = Touch (Write Gate r.curr)
deed_of L25p3 t r = Touch (Write X t)
deed_of L26p1 t r = Touch (Add C Down)
deed_of L27p1 t r = Touch (Read C)
deed_of L27p2 t r = Touch (Write U 1)
deed_of L27p3 t r = Touch (Read C)
deed_of L27p4 t r = Touch (Write V 1)
deed_of L27p5 t r = Touch (Swap U 1 2)
deed_of Down28p1 t r = Touch (Write V 0)
deed_of Down28p2 t r = Touch (Write U 0)
deed_of L28p1 t r = Touch (Write V 0)
deed_of L28p2 t r = Touch (Write U 0)
deed_of L29p2 t r = Touch (Add C Down)
deed_of L32p1 t r = Quit

-- the deed of the next line of a task
abbrev pub deed_at : Place → ℕ → Track → Deed
deed_at Rest t r = Nothing
deed_at Inside t r = Nothing
deed_at (Next l) t r = deed_of l t r

abbrev pub next_deed : ℕ → Track → Deed
next_deed t r = deed_at r.place t r

-- a task at rest, with all its numbers 0
abbrev pub at_rest : Role → Track
at_rest o = record { role = o; place = Rest; standing = Normal; prev = 0; curr = 0; d = 0; x = 0 }

-- the track with another register

abbrev pub with_prev : Track → ℕ → Track
with_prev r n = record { role = r.role; place = r.place; standing = r.standing; prev = n; curr = r.curr; d = r.d; x = r.x }

abbrev pub with_curr : Track → ℕ → Track
with_curr r n = record { role = r.role; place = r.place; standing = r.standing; prev = r.prev; curr = n; d = r.d; x = r.x }

abbrev pub with_d : Track → ℕ → Track
with_d r n = record { role = r.role; place = r.place; standing = r.standing; prev = r.prev; curr = r.curr; d = n; x = r.x }

abbrev pub with_x : Track → ℕ → Track
with_x r n = record { role = r.role; place = r.place; standing = r.standing; prev = r.prev; curr = r.curr; d = r.d; x = n }

-- the next line is l
abbrev pub goes : Track → Line → Track
goes r l = record { role = r.role; place = Next l; standing = r.standing; prev = r.prev; curr = r.curr; d = r.d; x = r.x }

-- inside, and standing so
abbrev pub comes_in : Track → Standing → Track
comes_in r s = record { role = r.role; place = Inside; standing = s; prev = r.prev; curr = r.curr; d = r.d; x = r.x }

abbrev pub rests : Track → Track
rests r = record { role = r.role; place = Rest; standing = Normal; prev = r.prev; curr = r.curr; d = r.d; x = r.x }

-- the end of promote: line 6 for a writer, rest for a reader
abbrev pub ends_as : Role → Track → Track
ends_as Writer r = goes r L6
ends_as Reader r = rests r

abbrev pub ends : Track → Track
ends r = ends_as r.role r

-- after line 29.2
abbrev pub leaves : Role → Track → Track
leaves Writer r = goes r L32p1
leaves Reader r = goes r L9

-- what a line makes of its task by what it found; a task that is turned down is inside as before
abbrev pub settle : Line → Track → Found → Track
settle L0p1 r f = goes r L0p2
settle L0p2 r f = cond (says_yes f) (goes r L1) (goes r L0p2)
settle L1 r f = goes (with_prev r (number_found f)) L2
settle L2 r f = goes (with_curr r (1 - r.prev)) L3
settle L3 r f = goes r L4
settle L4 r f = goes r L9
settle L6 r f = cond (is_number 1 f) (comes_in r Normal) (goes r L6)
settle L7 r f = goes r L8
settle L8 r f = goes r L32p1
settle L9 r f = goes (with_x r (number_found f)) L10
settle L10 r f = cond (r.x == 0) (ends r) (goes r L11)
settle L11 r f = cond (says_yes f) (goes r L12) (ends r)
settle L12 r f = cond (is_number 1 f) (ends r) (goes r L13)
settle L13 r f = cond (is_number 0 f) (goes r L14) (ends r)
settle L14 r f = cond (says_yes f) (goes r L15) (ends r)
settle L15 r f = ends r
settle L16 r f = goes r L16p1
settle L16p1 r f = goes r L17
settle L17 r f = goes (with_d r (number_found f)) L18
settle L18 r f = goes (with_x r (number_found f)) L19
settle L19 r f = cond (r.x == 0) (goes r L21) (goes r L20)
settle L20 r f = goes r L21
settle L21 r f = cond (is_number 0 f) (goes r L22) (goes r L22p1)
settle L22 r f = cond (is_number r.d f) (goes r L22p1) (goes r L22)
settle L22p1 r f = cond (is_number 2 f) (goes r L22p2) (comes_in r Normal)
settle L22p2 r f = cond (is_number 0 f) (comes_in r Normal) (goes r L22p2)
settle L23 r f = goes r L9
settle L25p1 r f = goes r L25p2
settle L25p2 r f = goes r L25p3
settle L25p3 r f = comes_in r Downgraded
settle L26p1 r f = goes r L32p1
settle L27p1 r f = cond (is_above_one f) (comes_in r r.standing) (goes r L27p2)
settle L27p2 r f = goes r L27p3
settle L27p3 r f = cond (is_above_one f) (comes_in r r.standing) (goes r L27p4)
settle L27p4 r f = goes r L27p5
settle L27p5 r f = cond (says_yes f) (comes_in r Upgraded) (comes_in r r.standing)
settle Down28p1 r f = goes r Down28p2
settle Down28p2 r f = comes_in r Downgraded
settle L28p1 r f = goes r L28p2
settle L28p2 r f = goes r L29p2
settle L29p2 r f = leaves r.role r
settle L32p1 r f = rests r

-- a task on its next line steps
abbrev pub stepped_at : Place → Track → Found → Track
stepped_at Rest r f = r
stepped_at Inside r f = r
stepped_at (Next l) r f = settle l r f

abbrev pub stepped : Track → Found → Track
stepped r f = stepped_at r.place r f
