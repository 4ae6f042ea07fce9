-- The digits of a number, two and four at a time.
use Rattle.std.proofs.Common.{◌≡◌, ℕ, zero, suc, ◌+◌, ◌-◌, ◌*◌, ◌/◌, ◌%◌, ◌^◌, ◌<◌, ◌≤◌, Bool, true, ◌&&◌, T, eqb, ◌++◌, length, get_or, ap, ◌∙◌, inl, inr, arith, eq-zero-or-pos, eqb→eq, append_assoc, length-append}
use Rattle.std.proofs.lemmas.Fmt.{decimal_digit, decimal_step, length-decimal-le}
use Rattle.std.specs.Fmt.{decimal}
use lib.Ieee.Fits.{and_l, and_r}
use Rattle.listing.specs.Digits.{two}
use Rattle.listing.specs.declared.digits.TheConstants.{PAIRS}

-- the table has both digits of each number below n
abbrev are_two : ℕ → Bool
are_two zero = true
are_two (suc p) = (eqb (get_or PAIRS (p * 2) 0) (48 + p / 10) && eqb (get_or PAIRS (p * 2 + 1) 0) (48 + p % 10)) && are_two p

below : (n p : ℕ) → T (are_two n) → p < n → (get_or PAIRS (p * 2) 0 ≡ 48 + p / 10) × (get_or PAIRS (p * 2 + 1) 0 ≡ 48 + p % 10)
below zero p t h = absurd (omega arith)
below (suc n) p t h =
    elim (eq-zero-or-pos (n - p)) [
      | inl z ↦ let e : p ≡ n = omega arith in let a = and_l _ (are_two n) t in rw e (eqb→eq _ _ (and_l _ _ a), eqb→eq _ _ (and_r _ _ a))
      | inr g ↦ below n p (and_r _ (are_two n) t) (omega arith)
    ]

pub PAIRS_at : (p : ℕ) → p < 100 → (get_or PAIRS (p * 2) 0 ≡ 48 + p / 10) × (get_or PAIRS (p * 2 + 1) 0 ≡ 48 + p % 10)
PAIRS_at p h = below 100 p tt h

pub length_one : (n : ℕ) → n < 10 → length (decimal n) ≡ 1
length_one n h = ap length (decimal_digit n h)

pub decimal_short : (n : ℕ) → 10 ≤ n → n < 100 → decimal n ≡ two n
decimal_short n lo hi = rw (decimal_step n lo (omega arith), decimal_digit (n / 10) (omega arith))

pub length_short : (n : ℕ) → 10 ≤ n → n < 100 → length (decimal n) ≡ 2
length_short n lo hi = ap length (decimal_short n lo hi)

pub decimal_two : (n : ℕ) → 100 ≤ n → n < 2 ^ 64 → decimal n ≡ decimal (n / 100) ++ two (n % 100)
decimal_two n lo hi =
    let a : n / 10 / 10 ≡ n / 100 = omega arith in
    let b : n / 10 % 10 ≡ n % 100 / 10 = omega arith in
    let c : n % 10 ≡ n % 100 % 10 = omega arith in
    rw (decimal_step n (omega arith) hi, decimal_step (n / 10) (omega arith) (omega arith), append_assoc, a, b, ← c)

pub length_two : (n : ℕ) → 100 ≤ n → n < 2 ^ 64 → length (decimal n) ≡ length (decimal (n / 100)) + 2
length_two n lo hi = ap length (decimal_two n lo hi) ∙ length-append _ _

pub decimal_full : (n : ℕ) → 1000 ≤ n → n < 10000 → decimal n ≡ two (n / 100) ++ two (n % 100)
decimal_full n lo hi = rw (decimal_two n (omega arith) (omega arith), decimal_short (n / 100) (omega arith) (omega arith))

pub length_full : (n : ℕ) → 1000 ≤ n → n < 10000 → length (decimal n) ≡ 4
length_full n lo hi = ap length (decimal_full n lo hi)

pub decimal_four : (n : ℕ) → 10000 ≤ n → n < 2 ^ 64 → decimal n ≡ decimal (n / 10000) ++ (two (n % 10000 / 100) ++ two (n % 10000 % 100))
decimal_four n lo hi =
    let a : n / 100 / 100 ≡ n / 10000 = omega arith in
    let b : n / 100 % 100 ≡ n % 10000 / 100 = omega arith in
    let c : n % 10000 % 100 ≡ n % 100 = omega arith in
    rw (decimal_two n (omega arith) hi, decimal_two (n / 100) (omega arith) (omega arith), append_assoc, a, b, c)

pub length_four : (n : ℕ) → 10000 ≤ n → n < 2 ^ 64 → length (decimal n) ≡ length (decimal (n / 10000)) + 4
length_four n lo hi = ap length (decimal_four n lo hi) ∙ length-append _ _

pub length_number : (n : ℕ) → n < 2 ^ 32 → length (decimal n) ≤ 10
length_number n h = length-decimal-le 10 n (omega arith) (omega arith) (omega arith)
