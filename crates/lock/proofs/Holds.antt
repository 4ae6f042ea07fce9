-- The facts hold of a whole lock: of its cells, its queue and all its tasks; and a line of one task keeps them.
use Rattle.std.proofs.Common.{◌≡◌, ℕ, zero, suc, pred, ◌+◌, ◌<◌, ◌≤◌, cond, ◌≢◌, List, [], ◌∷◌, ◌++◌, length, get_or, set, sum_by, refl, sym, ap, ◌∙◌, subst, inl, inr, arith}
use Rattle.std.specs.List.{AllByRecursion as All}
use Rattle.std.proofs.lemmas.List.{get_or-set_same, get_or-set_other, get_or_past, length-set}
use Rattle.std.proofs.lemmas.List.Sums.{sum_by-set, get_or-le-sum_by, sum_by-cons, count_by-le-length}
use Rattle.std.proofs.ByRecursion.{All-weaker, All-push}
use Rattle.std.proofs.lemmas.Bool.{cases_eq, cases_lt}
use Rattle.memory.specs.declared.operation.Operation.{Operation}
use Rattle.memory.specs.declared.operation.Operation.TheVariants.{Read, Write, Add, Swap}
use Rattle.memory.specs.Operations.{after}
use Rattle.lines.specs.declared.deed.Deed.{Deed}
use Rattle.lines.specs.declared.deed.Deed.TheVariants.{Touch, Join, Quit}
use Rattle.lines.specs.declared.place.Line.{Line}
use Rattle.lines.specs.declared.place.Place.{Place}
use Rattle.lines.specs.declared.place.Role.{Role}
use Rattle.lines.specs.declared.place.Role.TheVariants.{Reader}
use Rattle.lines.specs.declared.place.Standing.{Standing}
use Rattle.lines.specs.declared.place.Standing.TheVariants.{Normal}
use Rattle.lines.specs.declared.track.Track.{Track}
use Rattle.lines.specs.Classes.{counted_at, has_upgraded, is_counted, upgraded_at}
use Rattle.lines.specs.Deeds.{cells_after, finds, waiting_after}
use Rattle.lines.specs.Lines.{comes_in, deed_of, settle}
use Rattle.calls.specs.declared.record.Record.{Record}
use Rattle.calls.specs.Census.{tasks_that}
use Rattle.calls.specs.Records.{fresh}
use Rattle.lock.proofs.Facts.{Before, Cells, Fits, Keeps, Met, OneTask, Stays, Task, TwoTasks, seen, seen_cells, two}
use Rattle.lock.proofs.Keeps.{kept}

-- the record at place i, from 0 on, and the task that it is
abbrev pub at : List Record → ℕ → Record
at rs i = get_or rs i (fresh Reader)

abbrev pub seen_at : List Record → ℕ → Task
seen_at rs i = seen i (at rs i).track

-- what holds of the record that is put in at place i, and of each one before it, holds of each one then
pub each_set : (P : ℕ → Record → Type 0) (rs : List Record) (i : ℕ) (r : Record) → P i r → ((j : ℕ) → P j (at rs j)) → (j : ℕ) → P j (at (set rs i r) j)
each_set P [] i r own all j = all j
each_set P (x ∷ rs) zero r own all zero = own
each_set P (x ∷ rs) zero r own all (suc j) = all (suc j)
each_set P (x ∷ rs) (suc i) r own all zero = all 0
each_set P (x ∷ rs) (suc i) r own all (suc j) = each_set (λ n. P (suc n)) rs i r own (λ n. all (suc n)) j

-- the same where it is not known of the one that was there
pub each_other : (P : ℕ → Record → Type 0) (rs : List Record) (i : ℕ) (r : Record) → i < length rs → P i r → ((j : ℕ) → j ≢ i → P j (at rs j)) → (j : ℕ) → P j (at (set rs i r) j)
each_other P rs i r h own others j = elim (cases_eq j i) [ inl e ↦ rw (e, get_or-set_same rs i r (fresh Reader) h) own | inr n ↦ rw (get_or-set_other rs i j r (fresh Reader) n) (others j n) ]

-- Counts.

abbrev pub tick : Record → ℕ
tick r = cond (is_counted r.track) 1 0

pub tick_counted : (rs : List Record) (i : ℕ) → tick (at rs i) ≤ tasks_that is_counted rs
tick_counted rs i = elim (cases_lt i (length rs)) [ inl h ↦ get_or-le-sum_by tick rs i (fresh Reader) h | inr h ↦ rw (get_or_past rs i (fresh Reader) h) (omega arith) ]

ticks_counted : (rs : List Record) (i j : ℕ) → i < length rs → j ≢ i → tick (at rs i) + tick (at rs j) ≤ tasks_that is_counted rs
ticks_counted rs i j h n = omega (arith, sum_by-set tick rs i (fresh Reader) (fresh Reader) h, rw (get_or-set_other rs i j (fresh Reader) (fresh Reader) n) at (tick_counted (set rs i (fresh Reader)) j))

abbrev mark : Record → ℕ
mark r = cond (has_upgraded r.track) 1 0

mark_tick : (p : Place) (o : Role) (s : Standing) → cond {A = ℕ} (upgraded_at p s) 1 0 ≤ cond {A = ℕ} (counted_at p o s) 1 0
mark_tick p o s = grind arith

sums_ordered : (f g : Record → ℕ) → ((r : Record) → f r ≤ g r) → (rs : List Record) → sum_by f rs ≤ sum_by g rs
sums_ordered f g le [] = omega arith
sums_ordered f g le (r ∷ rs) = omega (arith, sum_by-cons f r rs, sum_by-cons g r rs, le r, sums_ordered f g le rs)

-- a counted task for which U is not 2 is counted beside the one for which it is
counted_beside : (rs : List Record) (i : ℕ) → i < length rs → mark (at rs i) ≡ 0 → tick (at rs i) ≡ 1 → tasks_that has_upgraded rs + 1 ≤ tasks_that is_counted rs
counted_beside rs i h e n = omega (arith, sum_by-set tick rs i (fresh Reader) (fresh Reader) h, sum_by-set mark rs i (fresh Reader) (fresh Reader) h, sums_ordered mark tick (λ r. mark_tick r.track.place r.track.role r.track.standing) (set rs i (fresh Reader)))

-- a task that is counted
counted_record : Record
counted_record = record { track = comes_in (fresh Reader).track Normal; account = (fresh Reader).account; out = (fresh Reader).out }

-- where one is not counted there is room for it
pub room : (rs : List Record) (i : ℕ) → i < length rs → tick (at rs i) ≡ 0 → tasks_that is_counted rs + 1 ≤ length rs
unfolding counted_record
room rs i h e = omega (arith, sum_by-set tick rs i counted_record (fresh Reader) h, count_by-le-length (λ (r : Record). is_counted r.track) (set rs i counted_record), length-set rs i counted_record)

-- The queue: its tasks are writers on their way, and no task is in it twice.

abbrev pub Waits : List Record → ℕ → Type 0
Waits rs t = (0 < t) × ((seen_at rs (pred t)).writer ≡ 1) × (1 ≤ (seen_at rs (pred t)).rank)

abbrev pub Distinct : List ℕ → Type 0
Distinct [] = Unit {0}
Distinct (y ∷ ys) = All (λ z. z ≢ y) ys × Distinct ys

distinct_push : (ws : List ℕ) (t : ℕ) → Distinct ws → All (λ z. z ≢ t) ws → Distinct (ws ++ t ∷ [])
distinct_push [] t d a = (tt, tt)
distinct_push (y ∷ ys) t d a = (All-push (λ z. z ≢ y) ys t d.0 (λ e. a.0 (sym e)), distinct_push ys t d.1 a.1)

pub record Holds (cs ws : List ℕ) (rs : List Record) : Type 0 where
  pub seven : length cs ≡ 7
  pub count : get_or cs 0 0 ≡ tasks_that is_counted rs
  pub holders : tasks_that has_upgraded rs ≡ two (get_or cs 5 0)
  pub x_cell : get_or cs 3 0 ≤ length rs
  pub x_register : (i : ℕ) → (at rs i).track.x ≤ length rs
  pub one : (i : ℕ) → OneTask (seen_cells cs ws) (seen_at rs i)
  pub pair : (i j : ℕ) → i ≢ j → TwoTasks (seen_cells cs ws) (seen_at rs i) (seen_at rs j)
  pub waits : All (Waits rs) ws
  pub distinct : Distinct ws

after_seven : (op : Operation) (cs : List ℕ) → length (after op cs) ≡ length cs
after_seven (Read c) cs = refl
after_seven (Write c n) cs = length-set cs c n
after_seven (Add c s) cs = length-set cs c _
after_seven (Swap c e n) cs = grind (arith, length-set)

pub deed_seven : (d : Deed) (cs : List ℕ) → length (cells_after d cs) ≡ length cs
deed_seven (Touch op) cs = after_seven op cs
deed_seven d cs = refl

-- The record at place i is replaced by r.
module _ (rs : List Record) (i : ℕ) (r : Record) (h : i < length rs) where
  abbrev old : Task
  old = seen_at rs i

  abbrev new : Task
  new = seen i r.track

  waits_same : Stays old new → (t : ℕ) → Waits rs t → Waits (set rs i r) t
  waits_same k t w =
      elim (cases_eq (pred t) i) [
        | inl e ↦ let z = k (rw e at w.1) (rw e at w.2) in rw (e, get_or-set_same rs i r (fresh Reader) h) (w.0, z.0, z.1)
        | inr n ↦ rw (get_or-set_other rs i (pred t) r (fresh Reader) n) w
      ]

  waits_other : (t : ℕ) → t ≢ suc i → Waits rs t → Waits (set rs i r) t
  waits_other t n w = let m : pred t ≢ i = omega arith in rw (get_or-set_other rs i (pred t) r (fresh Reader) m) w

  waits_others : (ws : List ℕ) → All (λ z. z ≢ suc i) ws → All (Waits rs) ws → All (Waits (set rs i r)) ws
  waits_others [] a w = tt
  waits_others (y ∷ ys) a w = (waits_other y a.0 w.0, waits_others ys a.1 w.1)

  -- a task at rest does not wait
  pub rests_apart : old.rank ≡ 0 → (t : ℕ) → Waits rs t → t ≢ suc i
  rests_apart q t w e = let z : 1 ≤ old.rank = subst (λ (k : ℕ). 1 ≤ (seen_at rs (pred k)).rank) e w.2 in omega arith

  module _ (c : Cells) where
    queue_waits : (d : Deed) (ws : List ℕ) → c.head ≡ get_or ws 0 0 → Fits d c old new → All (Waits rs) ws → Distinct ws → All (Waits (set rs i r)) (waiting_after d (suc i) ws)
    queue_waits Join ws _ f w d = All-push (Waits (set rs i r)) ws (suc i) (All-weaker (Waits rs) _ (λ t k. waits_other t (rests_apart f.0 t k) k) ws w) (rw (get_or-set_same rs i r (fresh Reader) h) (omega arith, f.1, f.2))
    queue_waits Quit [] _ f w d = tt
    queue_waits Quit (y ∷ ys) e f w d = waits_others ys (subst (λ (k : ℕ). All (λ z. z ≢ k) ys) (sym e ∙ f) d.0) w.1
    queue_waits d ws _ f w _ = All-weaker (Waits rs) _ (waits_same f) ws w

    queue_distinct : (d : Deed) (ws : List ℕ) → Fits d c old new → All (Waits rs) ws → Distinct ws → Distinct (waiting_after d (suc i) ws)
    queue_distinct Join ws f w d = distinct_push ws (suc i) d (All-weaker (Waits rs) _ (λ t k. rests_apart f.0 t k) ws w)
    queue_distinct Quit [] f w d = tt
    queue_distinct Quit (y ∷ ys) f w d = d.1
    queue_distinct o ws f w d = d

-- The oldest after a deed, if it is another task, waits.

abbrev IsWaiting : List Record → ℕ → Type 0
IsWaiting rs j = ((seen_at rs j).writer ≡ 1) × (1 ≤ (seen_at rs j).rank)

head_waits : (rs : List Record) (ws : List ℕ) → All (Waits rs) ws → (j : ℕ) → suc j ≡ get_or ws 0 0 → IsWaiting rs j
head_waits rs [] w j e = absurd (omega arith)
head_waits rs (y ∷ ys) w j e = let z = subst (Waits rs) (sym e) w.0 in (z.1, z.2)

next_waits : (d : Deed) (rs : List Record) (i : ℕ) (ws : List ℕ) → All (Waits rs) ws → (j : ℕ) → j ≢ i → suc j ≡ get_or (waiting_after d (suc i) ws) 0 0 → IsWaiting rs j
next_waits Join rs i [] w j n e = absurd (omega arith)
next_waits Join rs i (y ∷ ys) w j n e = head_waits rs (y ∷ ys) w j e
next_waits Quit rs i [] w j n e = absurd (omega arith)
next_waits Quit rs i (y ∷ ys) w j n e = head_waits rs ys w.1 j e
next_waits d rs i ws w j n e = head_waits rs ws w j e

once : (ws : List ℕ) (i : ℕ) → Distinct ws → get_or ws 0 0 ≡ suc i → get_or ws 1 0 ≢ suc i
once [] i d e = omega arith
once (y ∷ []) i d e = omega arith
once (y ∷ z ∷ zs) i d e = λ k. d.0.0 (k ∙ sym e)

-- The task at place i, of the record r, does the line l, and its record is then r'.
module _ (l : Line) (C D G X P U V : ℕ) (ws : List ℕ) (rs : List Record) (i : ℕ) (h : i < length rs) where
  abbrev pub cs : List ℕ
  cs = C ∷ D ∷ G ∷ X ∷ P ∷ U ∷ V ∷ []

  abbrev pub r : Track
  r = (at rs i).track

  abbrev pub deed : Deed
  deed = deed_of l (suc i) r

  abbrev pub cs' : List ℕ
  cs' = cells_after deed cs

  abbrev pub ws' : List ℕ
  ws' = waiting_after deed (suc i) ws

  abbrev pub Moved : Type 0
  Moved = Keeps deed (seen_cells cs ws) (seen i r) (seen_cells cs' ws') (seen i (settle l r (finds deed (suc i) cs ws)))

  module _ (g : Holds cs ws rs) (k : Moved) (r' : Record) (is : r'.track ≡ settle l r (finds deed (suc i) cs ws)) where
    abbrev rs' : List Record
    rs' = set rs i r'

    new_is : seen i r'.track ≡ seen i (settle l r (finds deed (suc i) cs ws))
    new_is = ap (seen i) is

    pub met : (j : ℕ) → j ≢ i → Met (seen_cells cs ws) (seen_cells cs' ws') (seen i r) (seen_at rs j)
    met j n = record { apart = omega arith; sum = omega (arith, g.count, ticks_counted rs i j h n); next = next_waits deed rs i ws g.waits j n; one = g.one j; pair = g.pair i j (λ e. n (sym e)); pair_back = g.pair j i n }

    one_kept : (j : ℕ) → OneTask (seen_cells cs' ws') (seen_at rs' j)
    one_kept = each_other (λ j x. OneTask (seen_cells cs' ws') (seen j x.track)) rs i r' h (rw new_is k.self) (λ j n. k.other _ (met j n))

    pair_kept : (j m : ℕ) → j ≢ m → TwoTasks (seen_cells cs' ws') (seen_at rs' j) (seen_at rs' m)
    pair_kept =
        let P : Task → ℕ → ℕ → Record → Type 0 = λ a j m y. j ≢ m → TwoTasks (seen_cells cs' ws') a (seen m y.track) in
        each_other (λ j x. (m : ℕ) → P (seen j x.track) j m (at rs' m)) rs i r' h (each_other (P (seen i r'.track) i) rs i r' h (λ n. absurd (n refl)) (λ m o n. rw new_is (k.pair _ (met m o)))) (λ j p.
        each_other (P (seen_at rs j) j) rs i r' h (λ n. rw new_is (k.pair_back _ (met j p))) (λ m o n. k.others _ _ (met j p) (met m o) (g.pair j m n)))

    register_kept : (j : ℕ) → (at rs' j).track.x ≤ length rs'
    register_kept = each_other (λ j x. x.track.x ≤ length rs') rs i r' h (rw (length-set rs i r', is) (k.x_register (length rs) g.x_cell (g.x_register i))) (λ j n. rw (length-set rs i r') (g.x_register j))

    fits_new : Fits deed (seen_cells cs ws) (seen i r) (seen i r'.track)
    fits_new = subst (λ a. Fits deed (seen_cells cs ws) (seen i r) a) (sym new_is) k.fits

    line_holds : Holds cs' ws' rs'
    line_holds =
        record {
          seven = deed_seven deed cs;
          count = let n = ap (λ (a : Task). a.counted) new_is in omega (arith, k.count, g.count, n, sum_by-set tick rs i r' (fresh Reader) h);
          holders = let n = ap (λ (a : Task). a.upgraded) new_is in omega (arith, k.holders, g.holders, n, sum_by-set mark rs i r' (fresh Reader) h);
          x_cell = rw (length-set rs i r') (k.x_cell (length rs) h g.x_cell);
          x_register = register_kept;
          one = one_kept;
          pair = pair_kept;
          waits = queue_waits rs i r' h (seen_cells cs ws) deed ws refl fits_new g.waits g.distinct;
          distinct = queue_distinct rs i r' h (seen_cells cs ws) deed ws fits_new g.waits g.distinct;
        }

  pub line_moves : Before l (seen i r) → Holds cs ws rs → Moved
  line_moves f g = kept C D G X P U V i r.prev r.curr r.d r.x r.place r.standing l r.role ws f (omega (arith, g.count, tick_counted rs i)) (λ u n. omega (arith, g.count, g.holders, counted_beside rs i h u n)) (once ws i g.distinct) (g.one i)

  pub line_keeps : (r' : Record) → r'.track ≡ settle l r (finds deed (suc i) cs ws) → Before l (seen i r) → Holds cs ws rs → Holds cs' ws' (set rs i r')
  line_keeps r' is f g = line_holds g (line_moves f g) r' is
