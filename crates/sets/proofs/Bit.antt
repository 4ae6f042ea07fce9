-- The bit of a number asked, put to 1 and put to 0: none of a number that is no task's.
use Rattle.std.proofs.Common.{◌≡◌, ℕ, zero, suc, ◌-◌, ◌*◌, ◌/◌, ◌%◌, ◌^◌, ◌<◌, Bool, true, false, not, ◌&&◌, cond, eqb, sym, refl, ap, ◌∙◌, subst, ⊎_elim, zero-mul, one-mul, mod-eq_of_lt, arith}
use lib.Bits.{bit_and, bit_or, and_mask, and_zero_r, or_zero_r}
use Rattle.std.proofs.lemmas.Nat.{pow_pos, mod_below}
use Rattle.std.proofs.lemmas.Bool.{cases_Bool, ne_eqb}
use Rattle.sets.specs.Sets.{holds, joined, without, is_task, bit, contained, put_in, taken_out}
use Rattle.sets.proofs.Known.{task_bounds}
use Rattle.sets.proofs.Powers.{and_bit}
use Rattle.sets.proofs.Taken.{take_out}

shifted : (x a : ℕ) → x < 2 → not (eqb (x * 2 ^ a) 0) ≡ eqb x 1
shifted zero a h = rw (zero-mul (2 ^ a)) refl
shifted (suc zero) a h = rw (one-mul (2 ^ a)) (ap not (ne_eqb (2 ^ a) 0 (λ e. omega (arith, pow_pos a))))
shifted (suc (suc x)) a h = absurd (omega arith)

pub bit_asked : (m t : ℕ) → not (eqb (bit_and m (bit t)) 0) ≡ contained m t
bit_asked m t =
    elim (is_task t) as (λ b. not (eqb (bit_and m (cond b (2 ^ (t - 1)) 0)) 0) ≡ (b && holds m t)) [
      | true ↦ ap (λ (n : ℕ). not (eqb n 0)) (and_bit m (t - 1)) ∙ shifted (m / 2 ^ (t - 1) % 2) (t - 1) (mod_below (m / 2 ^ (t - 1)) 2 (omega arith))
      | false ↦ ap (λ (n : ℕ). not (eqb n 0)) (and_zero_r m)
    ]

pub bit_put : (m t : ℕ) → bit_or m (bit t) ≡ put_in m t
bit_put m t =
    elim (is_task t) as (λ b. bit_or m (cond b (2 ^ (t - 1)) 0) ≡ cond b (joined m t) m) [ true ↦ refl | false ↦ or_zero_r m ]

-- 18446744073709551615 has all 64 bits
pub bit_taken : (m t : ℕ) → m < 2 ^ 64 → bit_and m (18446744073709551615 - bit t) ≡ taken_out m t
bit_taken m t fits =
    let P : Bool → Type 0 = λ b. bit_and m (18446744073709551615 - cond b (2 ^ (t - 1)) 0) ≡ cond b (without m t) m in
    ⊎_elim
    (λ yes'. let b = task_bounds t yes' in subst P (sym yes') (take_out m t fits b.0 b.1))
    (λ no'. subst P (sym no') (and_mask m 64 ∙ mod-eq_of_lt fits))
    (cases_Bool (is_task t))
