-- But for costs, a run makes of the state what the calls alone make of it.
use Rattle.std.proofs.Common.{◌≡◌, ℕ, ◌-◌, List, [], ◌∷◌, length, set, map, Some, None, Option, sym, refl, ap, ap₂, ◌∙◌}
use Rattle.std.proofs.Math.ListN.{get_or-map, length-map}
use Rattle.std.proofs.Math.Seq.{map-set}
use Rattle.memory.specs.Calls.{Doing}
use Rattle.lines.specs.declared.deed.Deed.{Deed}
use Rattle.lines.specs.declared.deed.Found.{Found}
use Rattle.lines.specs.declared.place.Place.{Place}
use Rattle.lines.specs.declared.place.Place.TheVariants.{Rest}
use Rattle.lines.specs.declared.place.Right.{Right}
use Rattle.lines.specs.declared.place.Right.TheVariants.{Reading, Writing}
use Rattle.lines.specs.declared.place.Role.TheVariants.{Reader}
use Rattle.lines.specs.Deeds.{finds}
use Rattle.lines.specs.Lines.{next_deed, stepped}
use Rattle.calls.specs.declared.account.Account.{Account}
use Rattle.calls.specs.declared.record.Record.{Record}
use Rattle.calls.specs.declared.refusal.Refusal.{Refusal}
use Rattle.calls.specs.Accounts.{charged}
use Rattle.calls.specs.Questions.{pass_refusal, row_refusal, task_refusal, thickness_refusal, upgrade_refusal}
use Rattle.calls.specs.Records.{arrived, begun, downgrading, fresh, leaving, settled, upgrading, with_out}
use Rattle.calls.specs.States.{State, record_of, with_record}
use Rattle.calls.specs.Steps.{Answer, Call, Verdict, advance, after_deed, at_once, begin, done, downgrade, hands, judge, lay_back, leave, line, put, read, refuse, take, upgrade}
use Rattle.lock.specs.Model.{model_run, model_step, modelled, unpaid, unpaid_record}
use Rattle.lock.specs.Runs.{Made, RunWhile}
use Rattle.lock.proofs.Asked.{asked_all, is_asked, outcome, questions}
use Rattle.lock.proofs.Runs.{Able, Obeyed, call_able, call_kept}

-- the verdict on the state without costs
abbrev unpaid_verdict : Verdict → Verdict
unpaid_verdict (refuse e) = refuse e
unpaid_verdict (line t r) = line t (unpaid_record r)
unpaid_verdict (at_once a z) = at_once a (unpaid z)

asked_unpaid : (os : List (Option Refusal)) (v : Verdict) → unpaid_verdict (asked_all os v) ≡ asked_all os (unpaid_verdict v)
asked_unpaid [] v = refl
asked_unpaid (None ∷ os) v = asked_unpaid os v
asked_unpaid (Some e ∷ os) v = refl

module _ (s : State) (t : ℕ) where
  abbrev r : Record
  r = record_of s t

  own : record_of (unpaid s) t ≡ unpaid_record r
  own = get_or-map unpaid_record s.records (t - 1) (fresh Reader)

  task_unpaid : task_refusal (unpaid s) t ≡ task_refusal s t
  task_unpaid = rw (length-map s.records unpaid_record) refl

  pass_unpaid : (w : Right) (k : ℕ) → pass_refusal (unpaid s) w k t ≡ pass_refusal s w k t
  pass_unpaid w k = rw (length-map s.records unpaid_record, own) refl

  with_unpaid : (q : Record) → unpaid (with_record s t q) ≡ with_record (unpaid s) t (unpaid_record q)
  with_unpaid q = ap (λ rs. record { number = s.number; opened = s.opened; cells = s.cells; waiting = s.waiting; records = rs; table = s.table }) (map-set unpaid_record s.records (t - 1) q)

  -- the record without costs that a line leaves
  arrived_unpaid : (p : Place) (a : Account) (share : ℕ) →
      (arrived p (charged (record { cost = 0; u = a.u; g = a.g; total = 0; finished = a.finished }) 0)) ≡ (let b = arrived p (charged a share) in record { cost = 0; u = b.u; g = b.g; total = 0; finished = b.finished })
  arrived_unpaid Rest a share = refl
  arrived_unpaid p a share = refl

  settled_unpaid : (q : Record) (f : Found) (share : ℕ) → settled (unpaid_record q) f 0 ≡ unpaid_record (settled q f share)
  settled_unpaid q f share = ap (λ a. record { track = stepped q.track f; account = a; out = q.out }) (arrived_unpaid (stepped q.track f).place q.account share)

  deed_unpaid : (q : Record) (d : Deed) (share : ℕ) → unpaid (after_deed t q d share s) ≡ after_deed t (unpaid_record q) d 0 (unpaid s)
  deed_unpaid q d share =
      let z = after_deed t q d share s in
      ap (λ rs. record { number = z.number; opened = z.opened; cells = z.cells; waiting = z.waiting; records = rs; table = z.table })
      (map-set unpaid_record s.records (t - 1) (settled q (finds d t s.cells s.waiting) share) ∙ ap (set (map unpaid_record s.records) (t - 1)) (sym (settled_unpaid q (finds d t s.cells s.waiting) share)))

questions_unpaid : (c : Call) (s : State) → questions c (unpaid s) ≡ questions c s
questions_unpaid (begin t) s = rw (task_unpaid s t, own s t) refl
questions_unpaid (advance t) s = rw (task_unpaid s t, own s t) refl
questions_unpaid (take w t) s = rw (task_unpaid s t, own s t) refl
questions_unpaid (lay_back w k t) s = ap (λ o. o ∷ []) (pass_unpaid s t w k)
questions_unpaid (upgrade k t) s = ap₂ (λ o x. o ∷ upgrade_refusal x ∷ []) (pass_unpaid s t Reading k) (own s t)
questions_unpaid (downgrade k t) s = ap (λ o. o ∷ []) (pass_unpaid s t Writing k)
questions_unpaid (leave w k t) s = ap (λ o. o ∷ []) (pass_unpaid s t w k)
questions_unpaid (read w k t row) s = ap (λ o. o ∷ row_refusal row (length s.table) ∷ []) (pass_unpaid s t w k)
questions_unpaid (put k t row n) s = ap (λ o. o ∷ row_refusal row (length s.table) ∷ thickness_refusal n ∷ []) (pass_unpaid s t Writing k)

outcome_unpaid : (c : Call) (s : State) → outcome c (unpaid s) ≡ unpaid_verdict (outcome c s)
outcome_unpaid (begin t) s = ap (λ x. line t (begun x)) (own s t)
outcome_unpaid (advance t) s = ap (line t) (own s t)
outcome_unpaid (take w t) s = let q = with_out (record_of s t) (Some w) in ap (λ x. at_once (hands w s.number t) (with_record (unpaid s) t (with_out x (Some w)))) (own s t) ∙ ap (at_once (hands w s.number t)) (sym (with_unpaid s t q))
outcome_unpaid (lay_back w k t) s = let q = with_out (record_of s t) None in ap (λ x. at_once done (with_record (unpaid s) t (with_out x None))) (own s t) ∙ ap (at_once done) (sym (with_unpaid s t q))
outcome_unpaid (upgrade k t) s = ap (λ x. line t (upgrading x)) (own s t)
outcome_unpaid (downgrade k t) s = ap (λ x. line t (downgrading x)) (own s t)
outcome_unpaid (leave w k t) s = ap (λ x. line t (leaving x)) (own s t)
outcome_unpaid (read w k t row) s = refl
outcome_unpaid (put k t row n) s = refl

judged_unpaid : (c : Call) (s : State) → unpaid_verdict (judge c s) ≡ judge c (unpaid s)
judged_unpaid c s =
    ap unpaid_verdict (is_asked c s) ∙ asked_unpaid (questions c s) (outcome c s) ∙ ap₂ asked_all (sym (questions_unpaid c s)) (sym (outcome_unpaid c s)) ∙ sym (is_asked c (unpaid s))

obeyed_model : {M : Type 0} (does : Doing M) (v : Verdict) (s z : State) (m n : M) (a : Answer) → Obeyed does v s m a z n → unpaid z ≡ modelled (unpaid_verdict v) (unpaid s)
obeyed_model does (refuse e) s z m n a (x, y, k) = ap unpaid y
obeyed_model does (line t r) s z m n a (x, (share, y, k)) = ap unpaid y ∙ deed_unpaid s t r (next_deed t r.track) share
obeyed_model does (at_once b w) s z m n a (x, y, k) = ap unpaid y

module _ {M : Type 0} (does : Doing M) (limit : ℕ) where
  pub decided : (P : State → Type 0) (es : List Made) (s z : State) (m n : M) → Able limit s → RunWhile does limit P es s m z n → unpaid z ≡ model_run es (unpaid s)
  decided P [] s z m n g (p, same, k) = ap unpaid same
  decided P (e ∷ es) s z m n g (p, (y, k, call, run)) =
      let step : unpaid y ≡ model_step e.call (unpaid s) = obeyed_model does (judge e.call s) s y m k e.answer (call_kept does limit e.call s y m k e.answer g call).obeyed ∙ ap (λ v. modelled v (unpaid s)) (judged_unpaid e.call s) in
      decided P es y z k n (call_able does limit e.call s y m k e.answer g call) run ∙ ap (model_run es) step
