-- A task taken out of a set: its bit is cleared, which takes its power of two away where it
-- was in the set.
use Rattle.std.proofs.Common.{◌≡◌, ℕ, ◌+◌, ◌-◌, ◌*◌, ◌/◌, ◌%◌, ◌^◌, ◌<◌, ◌≤◌, sym, ap, ◌∙◌, ⊎_elim, mod-eq_of_lt, add-mul, one-mul, arith}
use lib.Bits.{bit_and, and_block, and_high, and_mask}
use Rattle.std.proofs.lemmas.Nat.{pow_pos, pow-add, shr_split, mod_below, div_below}
use Rattle.std.proofs.lemmas.Bool.{cases_Bool, eqb-true, eqb-false}
use Rattle.sets.specs.Sets.{holds, without}

-- all but one of 64 bits; 18446744073709551615 has them all
clear_bit : (m a j : ℕ) → j + 1 + a ≡ 64 → m < 2 ^ 64 → bit_and m (18446744073709551615 - 2 ^ a) ≡ (m / 2 ^ a / 2 * 2) * 2 ^ a + m % 2 ^ a
clear_bit m a j e fits =
    let size : 2 ^ (j + 1) * 2 ^ a ≡ 18446744073709551616 = sym (pow-add 2 (j + 1) a) ∙ ap (λ (n : ℕ). 2 ^ n) e in
    let two : 2 ^ (j + 1) ≡ 2 ^ j * 2 = pow-add 2 j 1 in
    let sum : (2 ^ (j + 1) - 2) * 2 ^ a + 2 * 2 ^ a ≡ 18446744073709551616 =
    sym (add-mul (2 ^ (j + 1) - 2) 2 (2 ^ a)) ∙ ap (λ (n : ℕ). n * 2 ^ a) (omega (arith, two, pow_pos j)) ∙ size in
    let mask : (2 ^ (j + 1) - 2) * 2 ^ a + (2 ^ a - 1) ≡ 18446744073709551615 - 2 ^ a = omega (arith, sum, pow_pos a) in
    let small : m / 2 ^ a < 2 ^ (j + 1) = div_below m (2 ^ a) (2 ^ (j + 1)) (pow_pos a) (rw size fits) in
    let half : m / 2 ^ a / 2 < 2 ^ j = omega (arith, two, small) in
    let upper : bit_and (m / 2 ^ a) (2 ^ (j + 1) - 2) ≡ m / 2 ^ a / 2 * 2 = and_high (m / 2 ^ a) j 1 ∙ ap (λ (n : ℕ). n * 2) (mod-eq_of_lt half) in
    let lower : bit_and (m % 2 ^ a) (2 ^ a - 1) ≡ m % 2 ^ a = and_mask (m % 2 ^ a) a ∙ mod-eq_of_lt (mod_below m (2 ^ a) (pow_pos a)) in
    let parts = and_block a (m / 2 ^ a) (2 ^ (j + 1) - 2) (m % 2 ^ a) (2 ^ a - 1) (mod_below m (2 ^ a) (pow_pos a)) (omega (arith, pow_pos a)) in
    rw (shr_split m a, mask) at parts ∙ rw (upper, lower)

pub take_out : (m t : ℕ) → m < 2 ^ 64 → 1 ≤ t → t ≤ 64 → bit_and m (18446744073709551615 - 2 ^ (t - 1)) ≡ without m t
take_out m t fits low high =
    let cut = clear_bit m (t - 1) (64 - t) (omega arith) fits in
    let whole = shr_split m (t - 1) in
    ⊎_elim
    (λ in'.
    let odd : m / 2 ^ (t - 1) ≡ m / 2 ^ (t - 1) / 2 * 2 + 1 = omega (arith, eqb-true (m / 2 ^ (t - 1) % 2) 1 in') in
    let wide = ap (λ (n : ℕ). n * 2 ^ (t - 1)) odd ∙ add-mul (m / 2 ^ (t - 1) / 2 * 2) 1 (2 ^ (t - 1)) in
    rw in' (omega (arith, cut, whole, wide, one-mul (2 ^ (t - 1)))))
    (λ out.
    let even : m / 2 ^ (t - 1) ≡ m / 2 ^ (t - 1) / 2 * 2 = omega (arith, eqb-false (m / 2 ^ (t - 1) % 2) 1 out) in
    let wide = ap (λ (n : ℕ). n * 2 ^ (t - 1)) even in
    rw out (omega (arith, cut, whole, wide)))
    (cases_Bool (holds m t))
