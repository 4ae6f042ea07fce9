-- What a call leaves: a lock as open as before, with as many tasks; where it is refused, all as it was; and a pass that was taken can be laid back.
use Rattle.std.proofs.Common.{◌≡◌, ℕ, ◌-◌, Bool, true, false, eqb, leb, length, get_or, Some, None, Ok, Option, sym, refl, ap, ◌∙◌, subst, arith, length-set, get_or-set_same}
use Rattle.std.proofs.lemmas.Bool.{and_from, leb-true, eq-eqb}
use Rattle.memory.specs.Calls.{Doing}
use Rattle.lines.specs.declared.deed.Deed.{Deed}
use Rattle.lines.specs.declared.place.Right.{Right}
use Rattle.lines.specs.declared.place.Right.TheVariants.{Reading, Writing}
use Rattle.lines.specs.declared.place.Role.TheVariants.{Reader}
use Rattle.lines.specs.Lines.{next_deed}
use Rattle.lines.specs.Rights.{right_of, same_right}
use Rattle.calls.specs.declared.refusal.Refusal.{Refusal}
use Rattle.calls.specs.declared.refusal.Refusal.TheVariants.{NoPass, NoTask, OtherLock, Shut}
use Rattle.calls.specs.declared.record.Record.{Record}
use Rattle.calls.specs.Records.{begun, downgrading, fresh, leaving, upgrading, with_out}
use Rattle.calls.specs.States.{State, record_of, with_record, with_row}
use Rattle.calls.specs.Questions.{ask, task_refusal, begin_refusal, advance_refusal, take_refusal, pass_refusal, upgrade_refusal, row_refusal, thickness_refusal, is_out, out_for}
use Rattle.calls.specs.Told.{told}
use Rattle.calls.specs.Steps.{Answer, done, hands, no, Verdict, refuse, line, at_once, asked, judge, row_answer, Call, begin, advance, take, lay_back, upgrade, downgrade, leave, read, put, deed_refusal, lined, Carried, Calls}

-- a question that is not refused is answered
pub told_all : {A : Type 0} (o : Option Refusal) (x : A) → o ≡ None → told o x ≡ Ok x
told_all o x e = ap (λ p. told p x) e

done_is_no : (e : Refusal) → done ≡ no e → ⊥
done_is_no e h = let z : ◌≡◌ {A = ℕ} 0 1 = cc in omega arith

-- the same number of tasks, in a lock as open as before
pub record SameTasks (s z : State) : Type 0 where
  pub opened : z.opened ≡ s.opened
  pub count : length z.records ≡ length s.records

pub same_task : (s z : State) (t : ℕ) → SameTasks s z → task_refusal s t ≡ None → task_refusal z t ≡ None
same_task s z t same none = rw (same.opened, same.count) none

same : (s z : State) → z ≡ s → SameTasks s z
same s z e = record { opened = ap (λ (x : State). x.opened) e; count = ap (λ (x : State). length x.records) e }

-- What a verdict that answers at once may do: keep the tasks, and change nothing where it is a refusal.

abbrev AtOnceKeeps : State → Answer → State → Type 0
AtOnceKeeps s a z = SameTasks s z × ((e : Refusal) → a ≡ no e → z ≡ s)

abbrev Keeps : State → Verdict → Type 0
Keeps s (refuse e) = Unit {0}
Keeps s (line t r) = Unit {0}
Keeps s (at_once a z) = AtOnceKeeps s a z

asked_keeps : (s : State) (o : Option Refusal) (v : Verdict) → Keeps s v → Keeps s (asked o v)
asked_keeps s None v h = h
asked_keeps s (Some e) v h = tt

record_kept : (s : State) (t : ℕ) (r : Record) → SameTasks s (with_record s t r)
record_kept s t r = record { opened = refl; count = length-set s.records (t - 1) r }

hands_is_no : (w : Right) (k t : ℕ) (e : Refusal) → hands w k t ≡ no e → ⊥
hands_is_no w k t e h = let z : ◌≡◌ {A = ℕ} 0 1 = cc in omega arith

judged_keeps : (c : Call) (s : State) → Keeps s (judge c s)
judged_keeps (begin t) s = asked_keeps s (task_refusal s t) _ (asked_keeps s (begin_refusal (record_of s t)) (line t (begun (record_of s t))) tt)
judged_keeps (advance t) s = asked_keeps s (task_refusal s t) _ (asked_keeps s (advance_refusal (record_of s t)) (line t (record_of s t)) tt)
judged_keeps (take w t) s =
    asked_keeps s (task_refusal s t) _
    (asked_keeps s (take_refusal (right_of (record_of s t).track) (record_of s t).out w) (at_once (hands w s.number t) (with_record s t (with_out (record_of s t) (Some w))))
    (record_kept s t (with_out (record_of s t) (Some w)), λ e h. absurd (hands_is_no w s.number t e h)))
judged_keeps (lay_back w k t) s = asked_keeps s (pass_refusal s w k t) (at_once done (with_record s t (with_out (record_of s t) None))) (record_kept s t (with_out (record_of s t) None), λ e h. absurd (done_is_no e h))
judged_keeps (upgrade k t) s = asked_keeps s (pass_refusal s Reading k t) _ (asked_keeps s (upgrade_refusal (record_of s t)) (line t (upgrading (record_of s t))) tt)
judged_keeps (downgrade k t) s = asked_keeps s (pass_refusal s Writing k t) (line t (downgrading (record_of s t))) tt
judged_keeps (leave w k t) s = asked_keeps s (pass_refusal s w k t) (line t (leaving (record_of s t))) tt
judged_keeps (read w k t row) s =
    asked_keeps s (pass_refusal s w k t) _ (asked_keeps s (row_refusal row (length s.table)) (at_once (row_answer (get_or s.table row 0)) s) (same s s refl, λ e h. refl))
judged_keeps (put k t row n) s =
    asked_keeps s (pass_refusal s Writing k t) _ (asked_keeps s (row_refusal row (length s.table)) _ (asked_keeps s (thickness_refusal n) (at_once done (with_row s row n)) (record { opened = refl; count = refl }, λ e h. absurd (done_is_no e h))))

lined_same : (o : Option Refusal) (t : ℕ) (r : Record) (d : Deed) (share : ℕ) (s z : State) → z ≡ (lined o t r d share s).1 → SameTasks s z
lined_same None t r d share s z e = record { opened = ap (λ (x : State). x.opened) e; count = ap (λ (x : State). length x.records) e ∙ length-set _ _ _ }
lined_same (Some e) t r d share s z h = same s z h

lined_refused : (o : Option Refusal) (t : ℕ) (r : Record) (d : Deed) (share : ℕ) (s z : State) (e : Refusal) → no e ≡ (lined o t r d share s).0 → z ≡ (lined o t r d share s).1 → z ≡ s
lined_refused None t r d share s z e a h = absurd (done_is_no e (sym a))
lined_refused (Some x) t r d share s z e a h = h

module _ {M : Type 0} (does : Doing M) (limit : ℕ) (s z : State) (m n : M) where
  carried_same : (v : Verdict) (a : Answer) → Keeps s v → Carried does limit v s m a z n → SameTasks s z
  carried_same (refuse e) a k (share, h, x, y) = same s z y
  carried_same (line t r) a k (share, h, x, y) = lined_same (deed_refusal limit t (next_deed t r.track) s.cells s.waiting) t r (next_deed t r.track) share s z y
  carried_same (at_once b w) a k (share, h, x, y) = subst (SameTasks s) (sym y) k.0

  carried_refused : (v : Verdict) (e : Refusal) → Keeps s v → Carried does limit v s m (no e) z n → z ≡ s
  carried_refused (refuse f) e k (share, h, x, y) = y
  carried_refused (line t r) e k (share, h, x, y) = lined_refused (deed_refusal limit t (next_deed t r.track) s.cells s.waiting) t r (next_deed t r.track) share s z e x y
  carried_refused (at_once b w) e k (share, h, x, y) = y ∙ k.1 e (sym x)

  -- after any call the lock is as open as before and has as many tasks
  pub call_same : (c : Call) (a : Answer) → Calls does limit c s m a z n → SameTasks s z
  call_same c a h = carried_same (judge c s) a (judged_keeps c s) h

  -- a refused call leaves the state as it was
  pub call_refused : (c : Call) (e : Refusal) → Calls does limit c s m (no e) z n → z ≡ s
  call_refused c e h = carried_refused (judge c s) e (judged_keeps c s) h

  asked_none : (o : Option Refusal) (v : Verdict) (a : Answer) → ((e : Refusal) → a ≡ no e → ⊥) → Carried does limit (asked o v) s m a z n → (o ≡ None) × Carried does limit v s m a z n
  asked_none None v a is h = (refl, h)
  asked_none (Some e) v a is h = absurd (is e h.2)

  pub advanced_task : (t : ℕ) → Calls does limit (advance t) s m done z n → task_refusal z t ≡ None
  advanced_task t h = same_task s z t (call_same (advance t) done h) (asked_none (task_refusal s t) _ done done_is_no h).0

-- A pass that was taken.

pub yes : (b : Bool) (e : Refusal) (o : Option Refusal) → ask b e o ≡ None → (b ≡ true) × (o ≡ None)
yes true e o h = (refl, h)
yes false e o h = let z : ◌≡◌ {A = ℕ} 0 1 = cc in absurd (omega arith)

pub record IsTask (s : State) (t : ℕ) : Type 0 where
  pub opened : s.opened ≡ true
  pub low : leb 1 t ≡ true
  pub high : leb t (length s.records) ≡ true

pub is_task : (s : State) (t : ℕ) → task_refusal s t ≡ None → IsTask s t
is_task s t h =
    let a = yes s.opened Shut (ask (leb 1 t) NoTask (ask (leb t (length s.records)) NoTask None)) h in
    let b = yes (leb 1 t) NoTask (ask (leb t (length s.records)) NoTask None) a.1 in
    let c = yes (leb t (length s.records)) NoTask None b.1 in
    record { opened = a.0; low = b.0; high = c.0 }

same_itself : (w : Right) → same_right w w ≡ true
same_itself Reading = refl
same_itself Writing = refl

-- the pass for the right w that goes out to a task can be laid back
out_there : (s : State) (t : ℕ) (w : Right) → IsTask s t → pass_refusal (with_record s t (with_out (record_of s t) (Some w))) w s.number t ≡ None
out_there s t w k =
    let r = with_out (record_of s t) (Some w) in
    let z = with_record s t r in
    let low = leb-true 1 t k.low in
    let high = leb-true t (length s.records) k.high in
    let own : record_of z t ≡ r = get_or-set_same s.records (t - 1) r (fresh Reader) (omega arith) in
    let count : leb t (length z.records) ≡ true = ap (leb t) (length-set s.records (t - 1) r) ∙ k.high in
    let right : out_for (record_of z t).out w ≡ true = ap (λ (x : Record). out_for x.out w) own ∙ same_itself w in
    let out : is_out z w t ≡ true = and_from _ _ (and_from _ _ k.low count) right in
    ap (λ b. ask b Shut (ask (eqb s.number s.number) OtherLock (ask (is_out z w t) NoPass None))) k.opened
    ∙ ap (λ b. ask b OtherLock (ask (is_out z w t) NoPass None)) (eq-eqb s.number s.number refl)
    ∙ ap (λ b. ask b NoPass None) out

pub record Taken (z : State) (w : Right) (t k u : ℕ) : Type 0 where
  pub task : u ≡ t
  pub there : task_refusal z t ≡ None
  pub out : pass_refusal z w k u ≡ None

module _ {M : Type 0} (does : Doing M) (limit : ℕ) (s z : State) (m n : M) where
  -- a pass was handed out: its task is there, and the pass can be laid back
  pub taken : (w : Right) (t : ℕ) (v : Right) (k u : ℕ) → Calls does limit (take w t) s m (hands v k u) z n → Taken z w t k u
  taken w t v k u h =
      let some = hands_is_no v k u in
      let first = asked_none does limit s z m n (task_refusal s t) _ (hands v k u) some h in
      let second = asked_none does limit s z m n (take_refusal (right_of (record_of s t).track) (record_of s t).out w) (at_once (hands w s.number t) (with_record s t (with_out (record_of s t) (Some w)))) (hands v k u) some first.1 in
      let says = second.1.2 in
      let left = second.1.3 in
      let number : k ≡ s.number = cc in
      let task : u ≡ t = cc in
      record {
        task = task;
        there = same_task s z t (call_same does limit s z m n (take w t) (hands v k u) h) first.0;
        out = ap (λ x. pass_refusal x w k u) left ∙ ap (λ x. pass_refusal (with_record s t (with_out (record_of s t) (Some w))) w x u) number ∙ ap (pass_refusal (with_record s t (with_out (record_of s t) (Some w))) w s.number) task ∙ out_there s t w (is_task s t first.0);
      }

  -- a pass that is out is laid back
  pub laid_back : (w : Right) (k t : ℕ) (a : Answer) → pass_refusal s w k t ≡ None → Calls does limit (lay_back w k t) s m a z n → a ≡ done
  laid_back w k t a out h = let x : Carried does limit (at_once done (with_record s t (with_out (record_of s t) None))) s m a z n = subst (λ o. Carried does limit (asked o (at_once done (with_record s t (with_out (record_of s t) None)))) s m a z n) out h in x.2

  asked_either : {P : Type 0} (o : Option Refusal) (v : Verdict) (a : Answer) → (z ≡ s → P) → (Carried does limit v s m a z n → P) → Carried does limit (asked o v) s m a z n → P
  asked_either None v a same f h = f h
  asked_either (Some e) v a same f h = same h.3

  -- a put leaves the passes that are out
  pub put_passes : (k t row v : ℕ) (a : Answer) → Calls does limit (put k t row v) s m a z n → (w : Right) (j u : ℕ) → pass_refusal z w j u ≡ pass_refusal s w j u
  put_passes k t row v a h w j u =
      let same : z ≡ s → pass_refusal z w j u ≡ pass_refusal s w j u = λ e. ap (λ x. pass_refusal x w j u) e in
      asked_either (pass_refusal s Writing k t) _ a same
      (asked_either (row_refusal row (length s.table)) _ a same
      (asked_either (thickness_refusal v) (at_once done (with_row s row v)) a same (λ x. ap (λ y. pass_refusal y w j u) x.3))) h
