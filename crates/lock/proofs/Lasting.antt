-- The facts last: each call keeps them, whatever its arguments.
use Rattle.std.proofs.Common.{◌≡◌, ℕ, suc, pred, ◌-◌, ◌<◌, Bool, true, cond, List, [], ◌∷◌, length, get_or, set, Option, sym, refl, ap, ◌∙◌, subst, arith}
use Rattle.std.proofs.ByRecursion.{All-weaker}
use Rattle.std.proofs.lemmas.List.{length-set}
use Rattle.std.proofs.lemmas.List.Sums.{sum_by-cons}
use Rattle.lines.specs.declared.place.Line.{Line}
use Rattle.lines.specs.declared.place.Right.{Right}
use Rattle.lines.specs.declared.track.Track.{Track}
use Rattle.lines.specs.Classes.{has_upgraded, is_counted}
use Rattle.lines.specs.Deeds.{cells_after, finds, waiting_after}
use Rattle.lines.specs.Lines.{deed_of, next_deed, settle}
use Rattle.calls.specs.declared.record.Record.{Record}
use Rattle.calls.specs.Census.{tasks_that}
use Rattle.calls.specs.Questions.{advance_refusal_at}
use Rattle.calls.specs.Records.{in_order, settled, with_out}
use Rattle.calls.specs.States.{State, record_of, with_record}
use Rattle.calls.specs.Steps.{after_deed}
use Rattle.calls.proofs.Sound.{settled_in_order}
use Rattle.lock.proofs.Facts.{Before, OneTask, seen, seen_cells}
use Rattle.lock.proofs.Holds.{Holds, Waits, at, each_set, line_keeps, seen_at}
use Rattle.lock.proofs.Judged.{Due, Lawful}
use Rattle.lock.proofs.Opened.{seven_of}

-- A line that is due is done.

line_kept : (cs ws : List ℕ) (rs : List Record) (i : ℕ) → i < length rs → (l : Line) → Before l (seen_at rs i) → (r : Record) →
    r.track ≡ settle l (at rs i).track (finds (deed_of l (suc i) (at rs i).track) (suc i) cs ws) → Holds cs ws rs →
    Holds (cells_after (deed_of l (suc i) (at rs i).track) cs) (waiting_after (deed_of l (suc i) (at rs i).track) (suc i) ws) (set rs i r)
line_kept cs ws rs i h l b r is g =
    let P : List ℕ → Type 0 = λ xs. r.track ≡ settle l (at rs i).track (finds (deed_of l (suc i) (at rs i).track) (suc i) xs ws) → Holds xs ws rs →
    Holds (cells_after (deed_of l (suc i) (at rs i).track) xs) (waiting_after (deed_of l (suc i) (at rs i).track) (suc i) ws) (set rs i r) in
    subst P (sym (seven_of cs g.seven)) (λ is' g'. line_keeps l (get_or cs 0 0) (get_or cs 1 0) (get_or cs 2 0) (get_or cs 3 0) (get_or cs 4 0) (get_or cs 5 0) (get_or cs 6 0) ws rs i h r is' b g') is g

pub line_lawful : (s : State) (t : ℕ) (r : Record) (share : ℕ) → Lawful s → Due s t r → Lawful (after_deed t r (next_deed t r.track) share s)
line_lawful s t r share g d =
    let i = t - 1 in
    let k = (record_of s t).track in
    let rs = s.records in
    let due = next_deed t r.track in
    let own = deed_of d.next t k in
    let y = settled r (finds due t s.cells s.waiting) share in
    let h : i < length rs = omega (arith, d.low, d.high) in
    let is : suc i ≡ t = omega (arith, d.low) in
    let same : due ≡ own = d.leads.deed t in
    let steps : y.track ≡ settle d.next k (finds own t s.cells s.waiting) = d.leads.steps (finds due t s.cells s.waiting) ∙ ap (λ p. settle d.next k (finds p t s.cells s.waiting)) same in
    let P : ℕ → Type 0 = λ n. y.track ≡ settle d.next k (finds (deed_of d.next n k) n s.cells s.waiting) → Holds (cells_after (deed_of d.next n k) s.cells) (waiting_after (deed_of d.next n k) n s.waiting) (set rs i y) in
    let kept : Holds (cells_after own s.cells) (waiting_after own t s.waiting) (set rs i y) = subst P is (λ e. line_kept s.cells s.waiting rs i h d.next d.leads.before y e g.holds) steps in
    record {
      opened = g.opened;
      some = omega (arith, length-set rs i y, g.some);
      few = omega (arith, length-set rs i y, g.few);
      ordered = each_set (λ j x. in_order x ≡ true) rs i y (settled_in_order r (finds due t s.cells s.waiting) share d.ordered (ap advance_refusal_at d.stands)) g.ordered;
      holds = subst (λ p. Holds (cells_after p s.cells) (waiting_after p t s.waiting) (set rs i y)) (sym same) kept;
    }

-- The tasks stand where they stood.

pub record SameTracks (rs qs : List Record) : Type 0 where
  pub count : length qs ≡ length rs
  pub each : (i : ℕ) → (at qs i).track ≡ (at rs i).track

counts_same : (p : Track → Bool) (rs qs : List Record) → SameTracks rs qs → tasks_that p qs ≡ tasks_that p rs
counts_same p [] [] k = refl
counts_same p [] (q ∷ qs) k = absurd (omega (arith, k.count))
counts_same p (r ∷ rs) [] k = absurd (omega (arith, k.count))
counts_same p (r ∷ rs) (q ∷ qs) k =
    let f : Record → ℕ = λ x. cond (p x.track) 1 0 in
    let first : f q ≡ f r = ap (λ x. cond (p x) 1 0) (k.each 0) in
    let others : tasks_that p qs ≡ tasks_that p rs = counts_same p rs qs (record { count = omega (arith, k.count); each = λ i. k.each (suc i) }) in
    sum_by-cons f q qs ∙ rw (first, others) (sym (sum_by-cons f r rs))

holds_same : (cs ws : List ℕ) (rs qs : List Record) → SameTracks rs qs → Holds cs ws rs → Holds cs ws qs
holds_same cs ws rs qs k g =
    record {
      seven = g.seven;
      count = g.count ∙ sym (counts_same is_counted rs qs k);
      holders = counts_same has_upgraded rs qs k ∙ g.holders;
      x_cell = omega (arith, k.count, g.x_cell);
      x_register = λ i. rw (k.each i, k.count) (g.x_register i);
      one = λ i. subst (λ x. OneTask (seen_cells cs ws) (seen i x)) (sym (k.each i)) (g.one i);
      pair = λ i j n. rw (k.each i, k.each j) (g.pair i j n);
      waits = All-weaker (Waits rs) (Waits qs) (λ t w. rw (k.each (pred t)) w) ws g.waits;
      distinct = g.distinct;
    }

-- what f tells of the records is as it was, where one is replaced by one of which it tells the same
pub each_same : {A : Type 0} (f : Record → A) (rs : List Record) (i : ℕ) (r : Record) → f r ≡ f (at rs i) → (j : ℕ) → f (at (set rs i r) j) ≡ f (at rs j)
each_same f rs i r e = each_set (λ j x. f x ≡ f (at rs j)) rs i r e (λ j. refl)

pub track_same : (rs : List Record) (i : ℕ) (r : Record) → r.track ≡ (at rs i).track → SameTracks rs (set rs i r)
track_same rs i r e = record { count = length-set rs i r; each = each_same (λ (x : Record). x.track) rs i r e }

-- a pass goes out or comes back
pub pass_lawful : (s : State) (t : ℕ) (o : Option Right) → Lawful s → in_order (with_out (record_of s t) o) ≡ true → Lawful (with_record s t (with_out (record_of s t) o))
pass_lawful s t o g k =
    let i = t - 1 in
    let r = with_out (record_of s t) o in
    record {
      opened = g.opened;
      some = omega (arith, length-set s.records i r, g.some);
      few = omega (arith, length-set s.records i r, g.few);
      ordered = each_set (λ j x. in_order x ≡ true) s.records i r k g.ordered;
      holds = holds_same s.cells s.waiting s.records _ (track_same s.records i r refl) g.holds;
    }
