-- What a read answers by the number in its row.
use Rattle.std.proofs.Common.{◌≡◌, ℕ, ◌<◌, ◌≤◌, ◌⊎◌, false, eqb, leb, Some, None, Option, sym, refl, ◌∙◌, subst, inl, inr, arith}
use Rattle.std.proofs.lemmas.Bool.{cases_Bool, eqb-true, leb-true}
use Rattle.calls.specs.declared.refusal.Refusal.TheVariants.{Stored}
use Rattle.calls.specs.Steps.{Answer, gives, no, row_answer}
use Rattle.lock.specs.Needs.{IsRefused}
use Rattle.lock.specs.Rows.{Reads}

-- a row answers a thickness or absence, or that it is damaged
pub row_says : (n : ℕ) → ((o : Option ℕ) × (row_answer n ≡ gives o)) ⊎ (row_answer n ≡ no Stored)
row_says n =
    elim (cases_Bool (eqb n 0)) [
      | inl none ↦ inl (None, rw none refl)
      | inr some ↦ elim (cases_Bool (leb n 1000000)) [ inl few ↦ inl (Some n, rw (some, few) refl) | inr much ↦ inr (rw (some, much) refl) ]
    ]

at_zero : (a : Answer) (n : ℕ) → a ≡ gives None → n ≡ 0 → Reads n a
at_zero a n e z =
    record {
      thickness = λ v h. cc;
      measured = λ low high. absurd (omega arith);
      unmeasured = (λ h. z, λ h. e);
      damaged = (λ h. absurd (subst (λ x. IsRefused x 32) e h), λ h. absurd (omega arith));
    }

within : (a : Answer) (n : ℕ) → a ≡ gives (Some n) → 1 ≤ n → n ≤ 1000000 → Reads n a
within a n e low high =
    record {
      thickness = λ v h. let k : v ≡ n = cc in record { some = omega arith; few = omega arith; same = k };
      measured = λ x y. e;
      unmeasured = (λ h. cc, λ h. absurd (omega arith));
      damaged = (λ h. absurd (subst (λ x. IsRefused x 32) e h), λ h. absurd (omega arith));
    }

above : (a : Answer) (n : ℕ) → a ≡ no Stored → 1000000 < n → Reads n a
above a n e high =
    record {
      thickness = λ v h. cc;
      measured = λ x y. absurd (omega arith);
      unmeasured = (λ h. cc, λ h. absurd (omega arith));
      damaged = (λ h. high, λ h. subst (λ x. IsRefused x 32) (sym e) refl);
    }

pub reads : (a : Answer) (n : ℕ) → a ≡ row_answer n → Reads n a
reads a n e =
    elim (cases_Bool (eqb n 0)) [
      | inl none ↦ at_zero a n (e ∙ rw none refl) (eqb-true n 0 none)
      | inr some ↦ elim (cases_Bool (leb n 1000000)) [
        | inl few ↦ within a n (e ∙ rw (some, few) refl) (is_some n some) (leb-true n 1000000 few)
        | inr much ↦ above a n (e ∙ rw (some, much) refl) (is_much n much)
      ]
    ]
  where
    is_some : (n : ℕ) → eqb n 0 ≡ false → 1 ≤ n
    is_some n h = grind arith

    is_much : (n : ℕ) → leb n 1000000 ≡ false → 1000000 < n
    is_much n h = grind arith
