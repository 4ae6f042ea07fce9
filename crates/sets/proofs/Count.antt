-- A set has as many ones as tasks.
use Rattle.std.proofs.Common.{◌≡◌, ℕ, zero, suc, ◌-◌, ◌/◌, ◌%◌, ◌^◌, ◌<◌, cond, eqb, sym, refl, ap, ◌∙◌, mod-eq_of_lt, one-add, arith}
use native.Mathlib.Nat.{mod-one}
use lib.Count.{ones, ones_in, ones_cat}
use Rattle.std.proofs.lemmas.Nat.{mod-pow-add, pow_pos, mod_below}
use Rattle.sets.specs.Sets.{count_to}

ones_bit : (x : ℕ) → x < 2 → ones x ≡ cond (eqb x 1) 1 0
unfolding ones ones_in
ones_bit zero h = refl
ones_bit (suc zero) h = refl
ones_bit (suc (suc x)) h = absurd (omega arith)

-- the count of ones of the lowest n bits is the count of the tasks from 1 to n
low_ones : (n m : ℕ) → ones (m % 2 ^ n) ≡ count_to n m
unfolding ones ones_in
low_ones zero m = ap ones (mod-one m)
low_ones (suc n) m =
    let e : n ≡ suc n - 1 = omega arith in
    let parts = ap (λ (k : ℕ). ones (m % 2 ^ k)) (sym (one-add n)) ∙ ap ones (mod-pow-add m 1 n) ∙ ones_cat n (m / 2 ^ n % 2) (m % 2 ^ n) (mod_below m (2 ^ n) (pow_pos n)) in
    let bit = ones_bit (m / 2 ^ n % 2) (mod_below (m / 2 ^ n) 2 (omega arith)) ∙ ap (λ (k : ℕ). cond (eqb (m / 2 ^ k % 2) 1) 1 0) e in
    parts ∙ omega (arith, bit, low_ones n m)

pub ones_counted : (m : ℕ) → m < 2 ^ 64 → ones m ≡ count_to 64 m
ones_counted m h = ap ones (sym (mod-eq_of_lt h)) ∙ low_ones 64 m
