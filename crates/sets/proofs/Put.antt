-- A task put into a set: it is in it, and of every other task it is as it was. Where it
-- was not in the set, its power of two is added.
use Rattle.std.proofs.Common.{◌≡◌, ℕ, zero, suc, ◌+◌, ◌-◌, ◌/◌, ◌%◌, ◌^◌, ◌<◌, ◌≤◌, false, ◌||◌, eqb, sym, refl, ap, ◌∙◌, ⊎_elim, zero-mul, arith}
use native.Mathlib.Nat.{div_self}
use lib.Bits.{bit_or, or_disjoint, or_zero_r}
use Rattle.std.proofs.lemmas.Nat.{pow_pos, mod_below}
use Rattle.std.proofs.lemmas.Bool.{cases_eq, eqb-false, eq-eqb, ne_eqb}
use Rattle.sets.specs.Sets.{holds, joined, Joins}
use Rattle.sets.proofs.Powers.{and_bit, other_bit, split}

or_one : (x : ℕ) → x < 2 → bit_or x 1 ≡ 1
or_one zero h = refl
or_one (suc zero) h = refl
or_one (suc (suc x)) h = absurd (omega arith)

pub joins : (m t : ℕ) → 1 ≤ t → Joins m t (joined m t)
joins m t h =
    let own : 2 ^ (t - 1) / 2 ^ (t - 1) % 2 ≡ 1 = ap (λ (n : ℕ). n % 2) (div_self (pow_pos (t - 1))) in (
      ap (λ (n : ℕ). eqb n 1) (split m (2 ^ (t - 1)) (t - 1) ∙ ap (bit_or (m / 2 ^ (t - 1) % 2)) own ∙ or_one (m / 2 ^ (t - 1) % 2) (mod_below (m / 2 ^ (t - 1)) 2 (omega arith))),
      λ other k ne.
          let ne' : other - 1 ≡ t - 1 → ⊥ = λ e. ne (omega arith) in
          ap (λ (n : ℕ). eqb n 1) (split m (2 ^ (t - 1)) (other - 1) ∙ ap (bit_or (m / 2 ^ (other - 1) % 2)) (other_bit (t - 1) (other - 1) ne') ∙ or_zero_r (m / 2 ^ (other - 1) % 2)),
    )

pub joined_sum : (m t : ℕ) → holds m t ≡ false → joined m t ≡ m + 2 ^ (t - 1)
joined_sum m t h =
    let bit : m / 2 ^ (t - 1) % 2 ≡ 0 = omega (arith, eqb-false (m / 2 ^ (t - 1) % 2) 1 h, mod_below (m / 2 ^ (t - 1)) 2 (omega arith)) in
    or_disjoint m (2 ^ (t - 1)) (and_bit m (t - 1) ∙ rw bit (zero-mul (2 ^ (t - 1))))

-- who is in a set with one more
pub holds_more : (m x t : ℕ) → 1 ≤ x → 1 ≤ t → holds m x ≡ false → holds (m + 2 ^ (x - 1)) t ≡ (eqb x t || holds m t)
holds_more m x t p q none =
    let bit : m / 2 ^ (x - 1) % 2 ≡ 0 = omega (arith, eqb-false (m / 2 ^ (x - 1) % 2) 1 none, mod_below (m / 2 ^ (x - 1)) 2 (omega arith)) in
    let own : 2 ^ (x - 1) / 2 ^ (x - 1) % 2 ≡ 1 = ap (λ (n : ℕ). n % 2) (div_self (pow_pos (x - 1))) in
    ap (λ (n : ℕ). holds n t) (sym (joined_sum m x none)) ∙ ⊎_elim
    (λ e. rw (eq-eqb x t e) (rw (← e, split m (2 ^ (x - 1)) (x - 1), bit, own)))
    (λ ne.
    let ne' : t - 1 ≡ x - 1 → ⊥ = λ e. ne (omega arith) in
    rw (ne_eqb x t ne, split m (2 ^ (x - 1)) (t - 1), other_bit (x - 1) (t - 1) ne', or_zero_r (m / 2 ^ (t - 1) % 2)))
    (cases_eq x t)
