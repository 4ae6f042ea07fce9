-- What the questions of a call ask is what it needs: where none is answered no it has that, and where it has that none is.
use Rattle.std.proofs.Common.{◌≡◌, ℕ, ◌+◌, ◌<◌, ◌≤◌, ◌⊎◌, true, eqb, leb, ltb, length, get_or, Some, None, Option, sym, refl, ap, ◌∙◌, subst, inl, inr, arith}
use Rattle.std.proofs.lemmas.Bool.{and_from, and_parts, eq-eqb, eqb-true, false≢true, le-leb, leb-true, lt-ltb, ltb-true}
use Rattle.memory.specs.Calls.{Doing}
use Rattle.lines.specs.declared.place.Place.{Place}
use Rattle.lines.specs.declared.place.Place.TheVariants.{Rest, Next}
use Rattle.lines.specs.declared.place.Right.{Right}
use Rattle.lines.specs.declared.place.Right.TheVariants.{Reading, Writing}
use Rattle.lines.specs.Rights.{right_of, same_right}
use Rattle.calls.specs.declared.refusal.Refusal.TheVariants.{Finished, NoPass, NoRow, NoTask, OtherLock, OtherRight, Shut, Thickness, Upgrades}
use Rattle.calls.specs.Questions.{ask, advance_refusal_at, begin_refusal_at, is_out, out_for, pass_refusal, row_refusal, take_refusal, task_refusal, thickness_refusal}
use Rattle.calls.specs.States.{State, record_of}
use Rattle.calls.specs.Steps.{Answer, Call, Verdict, advance, at_once, begin, downgrade, gives, judge, lay_back, leave, line, put, read, refuse, row_answer, take, upgrade}
use Rattle.calls.proofs.Obeyed.{yes}
use Rattle.lock.specs.Charges.{unfinished}
use Rattle.lock.specs.Needs.{RefusedAsDamaged, IsRefused, Needs, OnLine}
use Rattle.lock.specs.Runs.{task_of, was_obeyed}
use Rattle.lock.proofs.Asked.{Passed, outcome, passed}
use Rattle.lock.proofs.Measured.{row_says}
use Rattle.lock.proofs.Recorded.{told}
use Rattle.lock.proofs.Runs.{Obeyed}

-- What the questions on a pass tell.

pub same_is : (v w : Right) → same_right v w ≡ true → v ≡ w
same_is Reading Reading h = refl
same_is Writing Writing h = refl
same_is v w h = cc

pub same_itself : (w : Right) → same_right w w ≡ true
same_itself Reading = refl
same_itself Writing = refl

pub out_is : (o : Option Right) (w : Right) → out_for o w ≡ true → o ≡ Some w
out_is None w h = absurd (false≢true h)
out_is (Some v) w h = ap Some (same_is v w h)

pub takes : (has out : Option Right) (w : Right) → take_refusal has out w ≡ None → (has ≡ Some w) × (out ≡ None)
takes (Some v) None w h = (ap Some (same_is v w (yes (same_right v w) OtherRight None h).0), refl)
takes has out w h = cc

pub may_begin : (p : Place) (n : ℕ) → begin_refusal_at p n ≡ None → (p ≡ Rest) × (n + unfinished p < 1000000)
may_begin Rest n h = (refl, let k = ltb-true n 1000000 (yes (ltb n 1000000) Finished None h).0 in omega arith)
may_begin p n h = cc

pub may_advance : (p : Place) → advance_refusal_at p ≡ None → OnLine p
may_advance (Next l) h = (l, refl)
may_advance p h = cc

pub in_rows : (row rows : ℕ) → row_refusal row rows ≡ None → row < rows
in_rows row rows h = ltb-true row rows (yes (ltb row rows) NoRow None h).0

pub is_thickness : (n : ℕ) → thickness_refusal n ≡ None → (1 ≤ n) × (n ≤ 1000000)
is_thickness n h =
    let a = yes (leb 1 n) Thickness _ h in
    let b = yes (leb n 1000000) Thickness None a.1 in
    (leb-true 1 n a.0, leb-true n 1000000 b.0)

pub shown : (s : State) (w : Right) (k t : ℕ) → pass_refusal s w k t ≡ None → (k ≡ s.number) × ((record_of s t).out ≡ Some w)
shown s w k t h =
    let a = yes s.opened Shut _ h in
    let b = yes (eqb k s.number) OtherLock _ a.1 in
    let c = yes (is_out s w t) NoPass None b.1 in
    let out : out_for (record_of s t).out w ≡ true = (and_parts _ _ c.0).1 in
    (eqb-true k s.number b.0, out_is (record_of s t).out w out)

-- What a call needs, by the state itself.
abbrev pub NeedsIn : State → Call → Type 0
NeedsIn s c = Needs s.number (length s.records) (length s.table) (told (record_of s (task_of c))) (record_of s (task_of c)).track c

pub clear_task : (s : State) (t : ℕ) → s.opened ≡ true → 1 ≤ t → t ≤ length s.records → task_refusal s t ≡ None
clear_task s t opened low high =
    ap (λ b. ask b Shut (ask (leb 1 t) NoTask (ask (leb t (length s.records)) NoTask None))) opened
    ∙ ap (λ b. ask b NoTask (ask (leb t (length s.records)) NoTask None)) (le-leb 1 t low)
    ∙ ap (λ b. ask b NoTask None) (le-leb t (length s.records) high)

pub clear_pass : (s : State) (w : Right) (k t : ℕ) → s.opened ≡ true → 1 ≤ t → t ≤ length s.records → k ≡ s.number → (record_of s t).out ≡ Some w → pass_refusal s w k t ≡ None
clear_pass s w k t opened low high number e =
    let out : is_out s w t ≡ true = and_from _ _ (and_from _ _ (le-leb 1 t low) (le-leb t (length s.records) high)) (ap (λ o. out_for o w) e ∙ same_itself w) in
    ap (λ b. ask b Shut (ask (eqb k s.number) OtherLock (ask (is_out s w t) NoPass None))) opened
    ∙ ap (λ b. ask b OtherLock (ask (is_out s w t) NoPass None)) (eq-eqb k s.number number)
    ∙ ap (λ b. ask b NoPass None) out

pub clear_begin : (p : Place) (n : ℕ) → p ≡ Rest → n + unfinished p < 1000000 → begin_refusal_at p n ≡ None
clear_begin Rest n e h = ap (λ b. ask b Finished None) (lt-ltb n 1000000 (omega arith))
clear_begin p n e h = cc

pub clear_take : (has out : Option Right) (w : Right) → has ≡ Some w → out ≡ None → take_refusal has out w ≡ None
clear_take has out w e k = rw (e, k, same_itself w) refl

pub clear_row : (row rows : ℕ) → row < rows → row_refusal row rows ≡ None
clear_row row rows h = ap (λ b. ask b NoRow None) (lt-ltb row rows h)

pub clear_thickness : (n : ℕ) → 1 ≤ n → n ≤ 1000000 → thickness_refusal n ≡ None
clear_thickness n low high = ap (λ b. ask b Thickness (ask (leb n 1000000) Thickness None)) (le-leb 1 n low) ∙ ap (λ b. ask b Thickness None) (le-leb n 1000000 high)

pub row_clear : (n : ℕ) → (was_obeyed (row_answer n) ≡ true) ⊎ IsRefused (row_answer n) 32
row_clear n = elim (row_says n) [ inl p ↦ inl (ap was_obeyed p.1) | inr e ↦ inr (subst (λ a. IsRefused a 32) (sym e) refl) ]

pub told_row : (n : ℕ) → was_obeyed (row_answer n) ≡ true → (o : Option ℕ) × (row_answer n ≡ gives o)
told_row n h = elim (row_says n) [ inl p ↦ p | inr e ↦ absurd (false≢true (sym (ap was_obeyed e) ∙ h)) ]

-- a verdict that is no refusal, but for a damaged row
abbrev pub Clear : Call → Verdict → Type 0
Clear c (refuse e) = ⊥
Clear c (line t r) = Unit {0}
Clear c (at_once a z) = (was_obeyed a ≡ true) ⊎ RefusedAsDamaged c a

-- a call that has what it needs meets no question
pub unasked : (c : Call) (s : State) → s.opened ≡ true → NeedsIn s c → Passed c s
unasked (begin t) s opened (low, high, (rests, few)) = (clear_task s t opened low high, (clear_begin (record_of s t).track.place (record_of s t).account.finished rests few, tt))
unasked (advance t) s opened (low, high, (l, is)) = (clear_task s t opened low high, (ap advance_refusal_at is, tt))
unasked (take w t) s opened (low, high, (has, none)) = (clear_task s t opened low high, (clear_take (right_of (record_of s t).track) (record_of s t).out w has none, tt))
unasked (lay_back w k t) s opened (low, high, (number, out)) = (clear_pass s w k t opened low high number out, tt)
unasked (upgrade k t) s opened (low, high, ((number, out), few)) = (clear_pass s Reading k t opened low high number out, (ap (λ b. ask b Upgrades None) (lt-ltb (record_of s t).account.u 1000 few), tt))
unasked (downgrade k t) s opened (low, high, (number, out)) = (clear_pass s Writing k t opened low high number out, tt)
unasked (leave w k t) s opened (low, high, (number, out)) = (clear_pass s w k t opened low high number out, tt)
unasked (read w k t row) s opened (low, high, ((number, out), there)) = (clear_pass s w k t opened low high number out, (clear_row row (length s.table) there, tt))
unasked (put k t row n) s opened (low, high, ((number, out), there, some, few)) = (clear_pass s Writing k t opened low high number out, (clear_row row (length s.table) there, (clear_thickness n some few, tt)))

outcome_clear : (c : Call) (s : State) → Clear c (outcome c s)
outcome_clear (read w k t row) s = row_clear (get_or s.table row 0)
outcome_clear (take w t) s = inl refl
outcome_clear (lay_back w k t) s = inl refl
outcome_clear (put k t row n) s = inl refl
outcome_clear c s = tt

pub judged_clear : (c : Call) (s : State) → s.opened ≡ true → NeedsIn s c → Clear c (judge c s)
judged_clear c s opened h = subst (Clear c) (sym (passed c s (unasked c s opened h))) (outcome_clear c s)

pub obeyed_clear : {M : Type 0} (does : Doing M) (c : Call) (v : Verdict) (s z : State) (m n : M) (a : Answer) → Obeyed does v s m a z n → Clear c v → (was_obeyed a ≡ true) ⊎ RefusedAsDamaged c a
obeyed_clear does c (refuse f) s z m n a x h = absurd h
obeyed_clear does c (line t r) s z m n a (x, y) h = inl (ap was_obeyed x)
obeyed_clear does c (at_once b w) s z m n a (x, y, same) h = subst (λ d. (was_obeyed d ≡ true) ⊎ RefusedAsDamaged c d) (sym x) h
