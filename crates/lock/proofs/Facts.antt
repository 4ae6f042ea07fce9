-- The facts that every line keeps, in numbers alone: the cells with the oldest waiting writer, and tasks by the rank of their place.
--
-- A rank makes each class of places an interval, so that every fact is an implication between numbers:
-- 16 to 36 are counted, 23 to 37 past the gate, 27 to 37 in the section, 25 to 32 upgrading, 9 to 15 promoting.
use Rattle.std.proofs.Common.{◌≡◌, ℕ, suc, ◌+◌, ◌<◌, ◌≤◌, cond, eqb, ◌≢◌, List, get_or}
use Rattle.lines.specs.declared.deed.Deed.{Deed}
use Rattle.lines.specs.declared.deed.Deed.TheVariants.{Join, Quit}
use Rattle.lines.specs.declared.place.Line.{Line}
use Rattle.lines.specs.declared.place.Line.TheVariants.{L0p1, L0p2, L1, L2, L3, L4, L6, L7, L8, L9, L10, L11, L12, L13, L14, L15, L16, L16p1, L17, L18, L19, L20, L21, L22, L22p1, L22p2, L23, L25p1, L25p2, L25p3, L26p1, L27p1, L27p2, L27p3, L27p4, L27p5, Down28p1, Down28p2, L28p1, L28p2, L29p2, L32p1}
use Rattle.lines.specs.declared.place.Place.{Place}
use Rattle.lines.specs.declared.place.Place.TheVariants.{Rest, Inside, Next}
use Rattle.lines.specs.declared.place.Role.{Role}
use Rattle.lines.specs.declared.place.Role.TheVariants.{Reader, Writer}
use Rattle.lines.specs.declared.place.Standing.{Standing}
use Rattle.lines.specs.declared.place.Standing.TheVariants.{Normal, Upgraded, Downgraded}
use Rattle.lines.specs.declared.track.Track.{Track}
use Rattle.lines.specs.Classes.{has_upgraded, in_section, is_counted, may_write}

-- the seven cells, and the oldest that waits, 0 for none
pub record Cells : Type 0 where
  pub C : ℕ
  pub D : ℕ
  pub Gate : ℕ
  pub X : ℕ
  pub Permit : ℕ
  pub U : ℕ
  pub V : ℕ
  pub head : ℕ

abbrev pub seen_cells : List ℕ → List ℕ → Cells
seen_cells cs ws = record { C = get_or cs 0 0; D = get_or cs 1 0; Gate = get_or cs 2 0; X = get_or cs 3 0; Permit = get_or cs 4 0; U = get_or cs 5 0; V = get_or cs 6 0; head = get_or ws 0 0 }

-- A task: its number; the rank of its place; 1 where it is a writer, counted, in the section, with the writing right, or upgraded;
-- the rank to which an upgrade that is turned down would bring it; and its registers.
pub record Task : Type 0 where
  pub number : ℕ
  pub rank : ℕ
  pub writer : ℕ
  pub counted : ℕ
  pub section : ℕ
  pub writing : ℕ
  pub turned_down : ℕ
  pub upgraded : ℕ
  pub prev : ℕ
  pub curr : ℕ
  pub d : ℕ
  pub x : ℕ

-- 99 stands for the first line of a call, which no task has as its next line
abbrev pub rank_of_line : Line → ℕ
rank_of_line L0p2 = 1
rank_of_line L1 = 2
rank_of_line L2 = 3
rank_of_line L3 = 4
rank_of_line L4 = 5
rank_of_line L6 = 6
rank_of_line L8 = 38
rank_of_line L9 = 9
rank_of_line L10 = 10
rank_of_line L11 = 11
rank_of_line L12 = 12
rank_of_line L13 = 13
rank_of_line L14 = 14
rank_of_line L15 = 15
rank_of_line L16p1 = 16
rank_of_line L17 = 17
rank_of_line L18 = 18
rank_of_line L19 = 19
rank_of_line L20 = 20
rank_of_line L21 = 21
rank_of_line L22 = 22
rank_of_line L22p1 = 23
rank_of_line L22p2 = 24
rank_of_line L25p2 = 36
rank_of_line L25p3 = 35
rank_of_line L27p2 = 32
rank_of_line L27p3 = 31
rank_of_line L27p4 = 30
rank_of_line L27p5 = 29
rank_of_line Down28p2 = 27
rank_of_line L28p2 = 26
rank_of_line L29p2 = 25
rank_of_line L32p1 = 39
rank_of_line l = 99

abbrev pub rank_inside : Role → Standing → ℕ
rank_inside Reader Normal = 33
rank_inside Writer Normal = 37
rank_inside o Upgraded = 28
rank_inside o Downgraded = 34

abbrev pub rank_at : Place → Role → Standing → ℕ
rank_at Rest o s = 0
rank_at Inside o s = rank_inside o s
rank_at (Next l) o s = rank_of_line l

abbrev pub writer : Role → ℕ
writer Reader = 0
writer Writer = 1

-- the task at place i of the records, from 0 on
abbrev pub seen : ℕ → Track → Task
seen i r =
    record {
      number = suc i;
      rank = rank_at r.place r.role r.standing;
      writer = writer r.role;
      counted = cond (is_counted r) 1 0;
      section = cond (in_section r) 1 0;
      writing = cond (may_write r) 1 0;
      turned_down = rank_inside r.role r.standing;
      upgraded = cond (has_upgraded r) 1 0;
      prev = r.prev;
      curr = r.curr;
      d = r.d;
      x = r.x;
    }

-- what holds of each task
pub record OneTask (c : Cells) (a : Task) : Type 0 where
  -- its classes by its rank
  pub positive : 0 < a.number
  pub known_rank : a.rank ≤ 39
  pub counted_on : 16 ≤ a.rank → a.rank ≤ 36 → a.counted ≡ 1
  pub uncounted_below : a.rank < 16 → a.counted ≡ 0
  pub uncounted_above : 36 < a.rank → a.counted ≡ 0
  pub outside_below : a.rank < 27 → a.section ≡ 0
  pub outside_above : 37 < a.rank → a.section ≡ 0
  pub writes_within : a.writing ≡ 1 → (28 ≤ a.rank) × (a.rank ≤ 37)
  pub writes_not_between : a.writing ≡ 1 → 28 < a.rank → 37 ≤ a.rank
  pub turned_down_within : 29 ≤ a.rank → a.rank ≤ 34 → (33 ≤ a.turned_down) × (a.turned_down ≤ 34)
  pub upgraded_on : 26 ≤ a.rank → a.rank ≤ 28 → a.upgraded ≡ 1
  pub upgraded_not_below : a.rank < 26 → a.upgraded ≡ 0
  pub upgraded_not_above : 28 < a.rank → a.upgraded ≡ 0
  -- the ranges of the cells
  pub gate : c.Gate ≤ 1
  pub u : c.U ≤ 2
  pub v : c.V ≤ 1
  pub d : c.D ≤ 1
  pub permit : c.Permit ≤ 1
  pub no_head : c.head ≡ 0 → (c.Gate ≡ c.D) × (0 < c.X) × (c.Permit ≡ 1)
  -- its role and the queue
  pub reader_lines : 16 ≤ a.rank → a.rank ≤ 24 → a.writer ≡ 0
  pub reader_inside : a.rank ≡ 33 → a.writer ≡ 0
  pub writer_lines : 1 ≤ a.rank → a.rank ≤ 6 → a.writer ≡ 1
  pub writer_last_lines : 35 ≤ a.rank → a.writer ≡ 1
  pub head_alone : a.writer ≡ 1 → 2 ≤ a.rank → a.number ≡ c.head
  pub head_waits : a.number ≡ c.head → (a.writer ≡ 1) × (1 ≤ a.rank)
  -- the cells by the rank of the head
  pub head_first_lines : a.number ≡ c.head → a.rank ≤ 4 → (c.Gate ≡ c.D) × (0 < c.X) × (c.Permit ≡ 1)
  pub head_upgrading : a.number ≡ c.head → 16 ≤ a.rank → a.rank ≤ 34 → (c.Gate ≡ c.D) × (0 < c.X) × (c.Permit ≡ 1)
  pub head_last_line : a.number ≡ c.head → a.rank ≡ 39 → (c.Gate ≡ c.D) × (0 < c.X) × (c.Permit ≡ 1)
  pub line_2 : a.rank ≡ 3 → a.prev ≡ c.D
  pub line_3 : a.rank ≡ 4 → a.curr + c.D ≡ 1
  pub line_4 : a.rank ≡ 5 → (c.Gate + c.D ≡ 1) × (0 < c.X) × (c.Permit ≡ 1) × (a.curr ≡ c.D)
  pub head_waiting : a.number ≡ c.head → 6 ≤ a.rank → a.rank ≤ 15 → (c.Gate + c.D ≡ 1) × (a.curr ≡ c.D)
  pub head_permit : a.number ≡ c.head → 6 ≤ a.rank → a.rank ≤ 15 → 0 < c.X → c.Permit ≡ 0
  pub writer_inside : 36 ≤ a.rank → a.rank ≤ 37 → (c.Gate + c.D ≡ 1) × (c.X ≡ 0) × (c.Permit ≡ 1) × (a.curr ≡ c.D)
  pub line_25p3 : a.rank ≡ 35 → (c.Gate ≡ c.D) × (c.X ≡ 0) × (c.Permit ≡ 1)
  pub line_8 : a.rank ≡ 38 → (c.Gate ≡ c.D) × (c.X ≡ 0) × (c.Permit ≡ 1)
  -- the cells by its own rank
  pub line_15 : a.rank ≡ 15 → (c.X ≡ 0) × (c.Permit ≡ 0)
  pub lines_13_14 : 13 ≤ a.rank → a.rank ≤ 14 → c.X ≡ a.number → c.Permit ≡ 0
  pub line_20 : a.rank ≡ 20 → 0 < a.x
  pub line_11 : a.rank ≡ 11 → 0 < a.x
  pub lines_18_22 : 18 ≤ a.rank → a.rank ≤ 22 → c.X ≡ 0 → a.d ≡ c.D
  pub past_the_gate : 23 ≤ a.rank → a.rank ≤ 37 → c.X ≡ 0 → c.Gate + c.D ≡ 1 → a.number ≡ c.head
  pub upgraded_inside : a.rank ≡ 28 → (c.U ≡ 2) × (c.V ≡ 1)
  pub lines_28p2 : 26 ≤ a.rank → a.rank ≤ 27 → (c.U ≡ 2) × (c.V ≡ 0)
  pub line_27p5 : a.rank ≡ 29 → c.V ≡ 1
  pub lines_27 : 29 ≤ a.rank → a.rank ≤ 32 → c.U ≡ 2 → ⊥
  pub line_22 : a.rank ≡ 22 → 0 < c.X → c.Gate ≡ a.d
  pub line_22p2 : a.rank ≡ 24 → c.V ≡ 1 → c.U ≡ 2

-- what holds of each two tasks
pub record TwoTasks (c : Cells) (a b : Task) : Type 0 where
  pub line_15_once : a.rank ≡ 15 → b.rank ≡ 15 → ⊥
  pub line_14_counted : a.rank ≡ 14 → c.X ≡ a.number → 16 ≤ b.rank → b.rank ≤ 36 → b.rank ≤ 20
  pub line_14_d : a.rank ≡ 14 → c.X ≡ a.number → 18 ≤ b.rank → b.rank ≤ 20 → b.d ≡ c.D
  pub line_14_x : a.rank ≡ 14 → c.X ≡ a.number → 19 ≤ b.rank → b.rank ≤ 20 → b.x ≡ a.number
  pub one_upgrade : 25 ≤ a.rank → a.rank ≤ 32 → 25 ≤ b.rank → b.rank ≤ 32 → ⊥
  pub last_swap : 29 ≤ a.rank → a.rank ≤ 30 → c.U ≡ 1 → 17 ≤ b.rank → b.rank ≤ 36 → ⊥
  pub upgraded_alone : a.rank ≡ 28 → 27 ≤ b.rank → b.rank ≤ 37 → ⊥
  pub line_22p2_apart : a.rank ≡ 24 → 29 ≤ b.rank → b.rank ≤ 30 → ⊥

-- the task a, which moves the cells from c to c', meets another
pub record Met (c c' : Cells) (a b : Task) : Type 0 where
  pub apart : b.number ≢ a.number
  pub sum : a.counted + b.counted ≤ c.C
  pub next : b.number ≡ c'.head → (b.writer ≡ 1) × (1 ≤ b.rank)
  pub one : OneTask c b
  pub pair : TwoTasks c a b
  pub pair_back : TwoTasks c b a

abbrev pub two : ℕ → ℕ
two u = cond (eqb u 2) 1 0

-- what a line's deed asks of the queue: a task that waits goes on waiting, a task joins from rest, and the head quits
abbrev pub Stays : Task → Task → Type 0
Stays a a' = a.writer ≡ 1 → 1 ≤ a.rank → (a'.writer ≡ 1) × (1 ≤ a'.rank)

abbrev pub Fits : Deed → Cells → Task → Task → Type 0
Fits Join c a a' = (a.rank ≡ 0) × (a'.writer ≡ 1) × (1 ≤ a'.rank)
Fits Quit c a a' = c.head ≡ a.number
Fits d c a a' = Stays a a'

-- the task a moves the cells from c to c' by a deed, and is a' then
pub record Keeps (o : Deed) (c : Cells) (a : Task) (c' : Cells) (a' : Task) : Type 0 where
  pub count : c'.C + a.counted ≡ c.C + a'.counted
  pub holders : two c'.U + a.upgraded ≡ two c.U + a'.upgraded
  pub x_cell : (N : ℕ) → a.number ≤ N → c.X ≤ N → c'.X ≤ N
  pub x_register : (N : ℕ) → c.X ≤ N → a.x ≤ N → a'.x ≤ N
  pub fits : Fits o c a a'
  pub self : OneTask c' a'
  pub other : (b : Task) → Met c c' a b → OneTask c' b
  pub pair : (b : Task) → Met c c' a b → TwoTasks c' a' b
  pub pair_back : (b : Task) → Met c c' a b → TwoTasks c' b a'
  pub others : (b e : Task) → Met c c' a b → Met c c' a e → TwoTasks c b e → TwoTasks c' b e

-- where a task is before a line
abbrev pub Before : Line → Task → Type 0
Before L0p1 a = (a.rank ≡ 0) × (a.writer ≡ 1)
Before L7 a = a.rank ≡ 37
Before L16 a = (a.rank ≡ 0) × (a.writer ≡ 0)
Before L23 a = (33 ≤ a.rank) × (a.rank ≤ 34) × (a.writer ≡ 0)
Before L25p1 a = a.rank ≡ 37
Before L26p1 a = (a.rank ≡ 34) × (a.writer ≡ 1)
Before L27p1 a = (33 ≤ a.rank) × (a.rank ≤ 34) × (a.rank ≡ a.turned_down)
Before Down28p1 a = a.rank ≡ 28
Before L28p1 a = a.rank ≡ 28
Before l a = a.rank ≡ rank_of_line l
