-- One bit of a number, of a power of two, and of two sets joined.
use Rattle.std.proofs.Common.{◌≡◌, ℕ, suc, ◌+◌, ◌-◌, ◌*◌, ◌/◌, ◌%◌, ◌^◌, ap, ◌∙◌, ⊎_elim, one-mul, pow-suc, arith}
use native.Mathlib.Nat.{div-eq_of_lt, mul-mod_left}
use lib.Bits.{bit_and, bit_or, and_block, and_mask, and_zero_r, or_shr, or_mod}
use Rattle.std.proofs.lemmas.Nat.{pow_pos, pow-add, pow_below, shl-shr, shr_split, mod_below}
use Rattle.std.proofs.lemmas.Bool.{cases_order}

-- one bit of a number
pub and_bit : (m a : ℕ) → bit_and m (2 ^ a) ≡ (m / 2 ^ a % 2) * 2 ^ a
and_bit m a =
    let whole = shr_split m a in
    let one : 1 * 2 ^ a + 0 ≡ 2 ^ a = omega (arith, one-mul (2 ^ a)) in
    let parts = and_block a (m / 2 ^ a) 1 (m % 2 ^ a) 0 (mod_below m (2 ^ a) (pow_pos a)) (pow_pos a) in
    rw (whole, one) at parts ∙ rw (and_mask (m / 2 ^ a) 1, and_zero_r (m % 2 ^ a)) (omega arith)

-- another bit of a power of two is 0
pub other_bit : (a b : ℕ) → (b ≡ a → ⊥) → 2 ^ a / 2 ^ b % 2 ≡ 0
other_bit a b ne =
    ⊎_elim (λ e. absurd (ne e)) (⊎_elim
    (λ lt.
    let e : a ≡ suc (a - suc b) + b = omega arith in
    let f : 2 ^ a ≡ 2 ^ suc (a - suc b) * 2 ^ b = ap (λ (n : ℕ). 2 ^ n) e ∙ pow-add 2 (suc (a - suc b)) b in
    ap (λ (n : ℕ). n / 2 ^ b % 2) f ∙ ap (λ (n : ℕ). n % 2) (shl-shr (2 ^ suc (a - suc b)) b ∙ pow-suc 2 (a - suc b)) ∙ mul-mod_left (2 ^ (a - suc b)) 2)
    (λ gt. ap (λ (n : ℕ). n % 2) (div-eq_of_lt (pow_below a b gt)))) (cases_order b a)

-- a bit of two sets joined
pub split : (m k b : ℕ) → bit_or m k / 2 ^ b % 2 ≡ bit_or (m / 2 ^ b % 2) (k / 2 ^ b % 2)
split m k b = ap (λ (n : ℕ). n % 2) (or_shr m k b) ∙ or_mod (m / 2 ^ b) (k / 2 ^ b) 1
