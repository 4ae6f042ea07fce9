-- What a read tells of its row, and that each row stands still while a task keeps its reading right.
use Rattle.std.proofs.Common.{◌≡◌, ℕ, ◌≤◌, true, List, [], ◌∷◌, Some, Option, sym, refl, ap, ◌∙◌, subst, inl, inr, arith}
use Rattle.std.proofs.lemmas.Bool.{cases_Bool, cases_eq, false≢true}
use Rattle.memory.specs.Calls.{Doing}
use Rattle.lines.specs.declared.place.Right.{Right}
use Rattle.lines.specs.declared.place.Right.TheVariants.{Reading, Writing}
use Rattle.calls.specs.Refusals.{refusal_number}
use Rattle.calls.specs.States.{State}
use Rattle.calls.specs.Steps.{Answer, Call, Calls, Carried, put, read, row_answer}
use Rattle.lock.specs.Promises.{HasRight}
use Rattle.lock.specs.Rows.{IsOfRow, left_in}
use Rattle.lock.specs.Runs.{Made, RunWhile, was_obeyed}
use Rattle.lock.proofs.Judged.{Lawful}
use Rattle.lock.proofs.Asked.{Passed, judged, outcome, passed}
use Rattle.lock.proofs.Granted.{NeedsIn}
use Rattle.lock.proofs.Histories.{RowOf, call_left, fits_right}
use Rattle.lock.proofs.Runs.{Able, call_able, excluded, section_with_right}

module _ {M : Type 0} (does : Doing M) (limit : ℕ) where
  -- a read that meets none of its questions answers by the row, and leaves the state
  pub read_told : (s z : State) (m n : M) (w : Right) (k t row : ℕ) (a : Answer) → Passed (read w k t row) s → Calls does limit (read w k t row) s m a z n → (a ≡ row_answer (RowOf row s)) × (z ≡ s)
  read_told s z m n w k t row a may h = let q : Carried does limit (outcome (read w k t row) s) s m a z n = subst (λ v. Carried does limit v s m a z n) (passed (read w k t row) s may) h in (q.2, q.3)

  -- a read that the row answers meets none of its questions
  pub of_row : (s z : State) (m n : M) (w : Right) (k t row : ℕ) (a : Answer) → Calls does limit (read w k t row) s m a z n → IsOfRow a → Passed (read w k t row) s
  of_row s z m n w k t row a h of =
      judged (λ v. Carried does limit v s m a z n → Passed (read w k t row) s) (read w k t row) s (λ e own call. let is : refusal_number e ≡ 32 = subst IsOfRow call.2 of in absurd (omega (arith, own.1))) (λ may call. may) h

-- Nothing is put while a task has the reading right.

both_rights : (z : State) (t : ℕ) → HasRight z t Reading → HasRight z t Writing → ⊥
both_rights z t r w = let e : ◌≡◌ {A = Option Right} (Some Reading) (Some Writing) = sym r ∙ w in grind arith

no_writer : (z : State) (t u : ℕ) → Lawful z → 1 ≤ t → 1 ≤ u → HasRight z t Reading → HasRight z u Writing → ⊥
no_writer z t u g low low' r w =
    elim (cases_eq u t) [
      | inl is ↦ both_rights z t r (subst (λ x. HasRight z x Writing) is w)
      | inr other ↦ false≢true (sym (excluded z u t g low' low other w) ∙ section_with_right z t Reading r)
    ]

-- a call leaves each row then
left_still : (row : ℕ) (c : Call) (s : State) (a : Answer) (t : ℕ) → Lawful s → 1 ≤ t → HasRight s t Reading → (was_obeyed a ≡ true → NeedsIn s c) → (v : ℕ) → left_in row c a v ≡ v
left_still row (put k u r n) s a t g low has needs v =
    elim (cases_Bool (was_obeyed a)) [
      | inl obeyed ↦ let (low', high, ((number, out), there, some, few)) = needs obeyed in absurd (no_writer s t u g low low' has (fits_right s u Writing g out))
      | inr refused ↦ rw refused refl
    ]
left_still row c s a t g low has needs v = refl

module _ {M : Type 0} (does : Doing M) (limit : ℕ) where
  pub row_still : (row t : ℕ) (es : List Made) (s z : State) (m n : M) → Able limit s → 1 ≤ t → RunWhile does limit (λ x. HasRight x t Reading) es s m z n → RowOf row z ≡ RowOf row s
  row_still row t [] s z m n g low (r, same, k) = ap (RowOf row) same
  row_still row t (e ∷ es) s z m n g low (r, (y, k, call, run)) =
      let first = call_left does limit e.call s y m k e.answer g call in
      row_still row t es y z k n (call_able does limit e.call s y m k e.answer g call) low run ∙ first.row row ∙ left_still row e.call s e.answer t g.lawful low r first.needs (RowOf row s)
