-- The questions of each call in their order, and what it comes to where none is answered no: one walk over `judge`, for what the
-- promises say of a call.
use Rattle.std.proofs.Common.{◌≡◌, ℕ, ◌≤◌, Bool, true, false, eqb, leb, ltb, List, [], ◌∷◌, length, get_or, Some, None, Option, sym, refl, ap, ◌∙◌, subst, lit≤}
use Rattle.std.specs.List.{AllByRecursion as All}
use Rattle.lines.specs.declared.place.Place.{Place}
use Rattle.lines.specs.declared.place.Place.TheVariants.{Rest, Inside, Next}
use Rattle.lines.specs.declared.place.Right.{Right}
use Rattle.lines.specs.declared.place.Right.TheVariants.{Reading, Writing}
use Rattle.lines.specs.Rights.{right_of, same_right}
use Rattle.calls.specs.declared.refusal.Refusal.{Refusal}
use Rattle.calls.specs.declared.refusal.Refusal.TheVariants.{Finished, NoPass, NoRow, NoTask, OtherLock, OtherRight, Shut, Thickness, Upgrades}
use Rattle.calls.specs.Questions.{advance_refusal, advance_refusal_at, ask, begin_refusal, begin_refusal_at, is_out, pass_refusal, row_refusal, take_refusal, task_refusal, thickness_refusal, upgrade_refusal}
use Rattle.calls.specs.Records.{begun, downgrading, leaving, upgrading, with_out}
use Rattle.calls.specs.Refusals.{refusal_number}
use Rattle.calls.specs.States.{State, record_of, with_record, with_row}
use Rattle.calls.specs.Steps.{Call, Verdict, advance, asked, at_once, begin, done, downgrade, hands, judge, lay_back, leave, line, put, read, refuse, row_answer, take, upgrade}
use Rattle.lock.specs.Promises.{IsOfLock}

abbrev pub questions : Call → State → List (Option Refusal)
questions (begin t) s = task_refusal s t ∷ begin_refusal (record_of s t) ∷ []
questions (advance t) s = task_refusal s t ∷ advance_refusal (record_of s t) ∷ []
questions (take w t) s = task_refusal s t ∷ take_refusal (right_of (record_of s t).track) (record_of s t).out w ∷ []
questions (lay_back w k t) s = pass_refusal s w k t ∷ []
questions (upgrade k t) s = pass_refusal s Reading k t ∷ upgrade_refusal (record_of s t) ∷ []
questions (downgrade k t) s = pass_refusal s Writing k t ∷ []
questions (leave w k t) s = pass_refusal s w k t ∷ []
questions (read w k t row) s = pass_refusal s w k t ∷ row_refusal row (length s.table) ∷ []
questions (put k t row n) s = pass_refusal s Writing k t ∷ row_refusal row (length s.table) ∷ thickness_refusal n ∷ []

-- what a call comes to where none of them is answered no
abbrev pub outcome : Call → State → Verdict
outcome (begin t) s = line t (begun (record_of s t))
outcome (advance t) s = line t (record_of s t)
outcome (take w t) s = at_once (hands w s.number t) (with_record s t (with_out (record_of s t) (Some w)))
outcome (lay_back w k t) s = at_once done (with_record s t (with_out (record_of s t) None))
outcome (upgrade k t) s = line t (upgrading (record_of s t))
outcome (downgrade k t) s = line t (downgrading (record_of s t))
outcome (leave w k t) s = line t (leaving (record_of s t))
outcome (read w k t row) s = at_once (row_answer (get_or s.table row 0)) s
outcome (put k t row n) s = at_once done (with_row s row n)

-- the questions are asked in turn, before v
abbrev pub asked_all : List (Option Refusal) → Verdict → Verdict
asked_all [] v = v
asked_all (o ∷ os) v = asked o (asked_all os v)

pub is_asked : (c : Call) (s : State) → judge c s ≡ asked_all (questions c s) (outcome c s)
is_asked (begin t) s = refl
is_asked c s = refl

-- Every refusal is of the lock itself, and none has the number 32, which is of a row.

-- so it is with this refusal
abbrev pub OfQuestion : Refusal → Type 0
OfQuestion e = IsOfLock e × (refusal_number e ≤ 31)

abbrev Own : Option Refusal → Type 0
Own None = Unit {0}
Own (Some e) = OfQuestion e

own_ask : (b : Bool) (e : Refusal) (o : Option Refusal) → OfQuestion e → Own o → Own (ask b e o)
own_ask true e o h k = k
own_ask false e o h k = h

own_task : (s : State) (t : ℕ) → Own (task_refusal s t)
own_task s t =
    let third = ask (leb t (length s.records)) NoTask None in
    own_ask s.opened Shut (ask (leb 1 t) NoTask third) (lit≤ tt, lit≤ tt) (own_ask (leb 1 t) NoTask third (lit≤ tt, lit≤ tt) (own_ask (leb t (length s.records)) NoTask None (lit≤ tt, lit≤ tt) tt))

own_pass : (s : State) (w : Right) (k t : ℕ) → Own (pass_refusal s w k t)
own_pass s w k t =
    let third = ask (is_out s w t) NoPass None in
    own_ask s.opened Shut (ask (eqb k s.number) OtherLock third) (lit≤ tt, lit≤ tt) (own_ask (eqb k s.number) OtherLock third (lit≤ tt, lit≤ tt) (own_ask (is_out s w t) NoPass None (lit≤ tt, lit≤ tt) tt))

own_begin : (p : Place) (finished : ℕ) → Own (begin_refusal_at p finished)
own_begin Rest finished = own_ask (ltb finished 1000000) Finished None (lit≤ tt, lit≤ tt) tt
own_begin Inside finished = (lit≤ tt, lit≤ tt)
own_begin (Next l) finished = (lit≤ tt, lit≤ tt)

own_advance : (p : Place) → Own (advance_refusal_at p)
own_advance Rest = (lit≤ tt, lit≤ tt)
own_advance Inside = (lit≤ tt, lit≤ tt)
own_advance (Next l) = tt

own_take : (has out : Option Right) (w : Right) → Own (take_refusal has out w)
own_take None out w = (lit≤ tt, lit≤ tt)
own_take (Some v) (Some x) w = (lit≤ tt, lit≤ tt)
own_take (Some v) None w = own_ask (same_right v w) OtherRight None (lit≤ tt, lit≤ tt) tt

own_row : (row rows : ℕ) → Own (row_refusal row rows)
own_row row rows = own_ask (ltb row rows) NoRow None (lit≤ tt, lit≤ tt) tt

own_thickness : (n : ℕ) → Own (thickness_refusal n)
own_thickness n = own_ask (leb 1 n) Thickness (ask (leb n 1000000) Thickness None) (lit≤ tt, lit≤ tt) (own_ask (leb n 1000000) Thickness None (lit≤ tt, lit≤ tt) tt)

own : (c : Call) (s : State) → All Own (questions c s)
own (begin t) s = (own_task s t, (own_begin (record_of s t).track.place (record_of s t).account.finished, tt))
own (advance t) s = (own_task s t, (own_advance (record_of s t).track.place, tt))
own (take w t) s = (own_task s t, (own_take (right_of (record_of s t).track) (record_of s t).out w, tt))
own (lay_back w k t) s = (own_pass s w k t, tt)
own (upgrade k t) s = (own_pass s Reading k t, (own_ask (ltb (record_of s t).account.u 1000) Upgrades None (lit≤ tt, lit≤ tt) tt, tt))
own (downgrade k t) s = (own_pass s Writing k t, tt)
own (leave w k t) s = (own_pass s w k t, tt)
own (read w k t row) s = (own_pass s w k t, (own_row row (length s.table), tt))
own (put k t row n) s = (own_pass s Writing k t, (own_row row (length s.table), (own_thickness n, tt)))

-- no question of the call is answered no
abbrev pub Passed : Call → State → Type 0
Passed c s = All (λ o. o ≡ None) (questions c s)

each_asked : (P : Verdict → Type 0) (os : List (Option Refusal)) (v : Verdict) → All Own os → ((e : Refusal) → OfQuestion e → P (refuse e)) → (All (λ o. o ≡ None) os → P v) → P (asked_all os v)
each_asked P [] v h refused then = then tt
each_asked P (None ∷ os) v h refused then = each_asked P os v h.1 refused (λ k. then (refl, k))
each_asked P (Some e ∷ os) v h refused then = refused e h.0

-- what holds of every refusal by a question, and of what comes where none is answered no, holds of the verdict
pub judged : (P : Verdict → Type 0) (c : Call) (s : State) → ((e : Refusal) → OfQuestion e → P (refuse e)) → (Passed c s → P (outcome c s)) → P (judge c s)
judged P c s refused then = subst P (sym (is_asked c s)) (each_asked P (questions c s) (outcome c s) (own c s) refused then)

none_asked : (os : List (Option Refusal)) (v : Verdict) → All (λ o. o ≡ None) os → asked_all os v ≡ v
none_asked [] v h = refl
none_asked (o ∷ os) v h = ap (λ p. asked p (asked_all os v)) h.0 ∙ none_asked os v h.1

pub passed : (c : Call) (s : State) → Passed c s → judge c s ≡ outcome c s
passed c s h = is_asked c s ∙ none_asked (questions c s) (outcome c s) h
