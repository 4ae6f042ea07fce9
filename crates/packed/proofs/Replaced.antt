-- One field of four bits read and replaced, the other six kept.
use Rattle.std.proofs.Common.{◌≡◌, ℕ, zero, suc, ◌-◌, ◌*◌, ◌/◌, ◌%◌, ◌^◌, ◌<◌, ◌≤◌, List, [], ◌∷◌, slice_set, refl, ap, ◌∙◌, arith}
use Rattle.std.specs.Prelude.{bit_and, bit_or}
use Rattle.std.proofs.lemmas.Nat.{and_mask, and_shr, or_shr, and_mod, or_mod}
use Rattle.std.specs.Int.Bits.{and_zero_r, or_zero_l, or_zero_r}
use Rattle.packed.specs.Fields.{field, fields}

-- what holds at each of seven places
at_each : (P : ℕ → Type 0) → P 0 → P 1 → P 2 → P 3 → P 4 → P 5 → P 6 → (i : ℕ) → i < 7 → P i
at_each P a b c d e f g zero h = a
at_each P a b c d e f g (suc zero) h = b
at_each P a b c d e f g (suc (suc zero)) h = c
at_each P a b c d e f g (suc (suc (suc zero))) h = d
at_each P a b c d e f g (suc (suc (suc (suc zero)))) h = e
at_each P a b c d e f g (suc (suc (suc (suc (suc zero))))) h = f
at_each P a b c d e f g (suc (suc (suc (suc (suc (suc zero)))))) h = g
at_each P a b c d e f g (suc (suc (suc (suc (suc (suc (suc i))))))) h = absurd (omega arith)

-- a field of a masked number with other bits put in is that field, masked, with those bits put in
parts : (bits mask added j : ℕ) → field (bit_or (bit_and bits mask) added) j ≡ bit_or (bit_and (field bits j) (field mask j)) (field added j)
parts bits mask added j =
    ap (λ (x : ℕ). x % 16) (or_shr (bit_and bits mask) added (4 * j) ∙ ap (λ (x : ℕ). bit_or x (added / 2 ^ (4 * j))) (and_shr bits mask (4 * j)))
    ∙ or_mod (bit_and (bits / 2 ^ (4 * j)) (mask / 2 ^ (4 * j))) (added / 2 ^ (4 * j)) 4
    ∙ ap (λ (x : ℕ). bit_or x (field added j)) (and_mod (bits / 2 ^ (4 * j)) (mask / 2 ^ (4 * j)) 4)

-- under ones the field stays
stays : (bits mask added j : ℕ) → field mask j ≡ 15 → field added j ≡ 0 → field (bit_or (bit_and bits mask) added) j ≡ field bits j
stays bits mask added j p q =
    let masked : bit_and (field bits j) 15 ≡ field bits j = and_mask (field bits j) 4 ∙ omega arith in
    parts bits mask added j ∙ rw (p, q, or_zero_r) masked

-- under zeros it is what is put in
comes : (bits mask added j n : ℕ) → field mask j ≡ 0 → field added j ≡ n → field (bit_or (bit_and bits mask) added) j ≡ n
comes bits mask added j n p q = parts bits mask added j ∙ rw (p, q, and_zero_r, or_zero_l)

-- 32 ones, less those of a field
abbrev spared : ℕ → ℕ
spared i = 4294967295 - 15 * 2 ^ (4 * i) % 4294967296

-- a number at the place of a field
abbrev moved : ℕ → ℕ → ℕ
moved n i = n * 2 ^ (4 * i) % 4294967296

-- bits with the field at i replaced, as the code computes it
abbrev pub replaced : ℕ → ℕ → ℕ → ℕ
replaced bits n i = bit_or (bit_and bits (spared i)) (moved n i)

same_seven : {a b c d e f g a' b' c' d' e' f' g' : ℕ} → a ≡ a' → b ≡ b' → c ≡ c' → d ≡ d' → e ≡ e' → f ≡ f' → g ≡ g' → ◌≡◌ {A = List ℕ} (a ∷ b ∷ c ∷ d ∷ e ∷ f ∷ g ∷ []) (a' ∷ b' ∷ c' ∷ d' ∷ e' ∷ f' ∷ g' ∷ [])
same_seven p q r s t u v = cc

pub replace_field : (bits n i : ℕ) → n ≤ 15 → i < 7 → fields (replaced bits n i) ≡ slice_set (fields bits) i n
replace_field bits n i small h =
    let keep : (i j : ℕ) → field (spared i) j ≡ 15 → field (moved n i) j ≡ 0 → field (replaced bits n i) j ≡ field bits j
    = λ i j. stays bits (spared i) (moved n i) j in
    let put : (i : ℕ) → field (spared i) i ≡ 0 → field (moved n i) i ≡ n → field (replaced bits n i) i ≡ n
    = λ i. comes bits (spared i) (moved n i) i n in
    at_each (λ i. fields (replaced bits n i) ≡ slice_set (fields bits) i n)
    (same_seven (put 0 refl (omega arith)) (keep 0 1 refl (omega arith)) (keep 0 2 refl (omega arith)) (keep 0 3 refl (omega arith)) (keep 0 4 refl (omega arith)) (keep 0 5 refl (omega arith)) (keep 0 6 refl (omega arith)))
    (same_seven (keep 1 0 refl (omega arith)) (put 1 refl (omega arith)) (keep 1 2 refl (omega arith)) (keep 1 3 refl (omega arith)) (keep 1 4 refl (omega arith)) (keep 1 5 refl (omega arith)) (keep 1 6 refl (omega arith)))
    (same_seven (keep 2 0 refl (omega arith)) (keep 2 1 refl (omega arith)) (put 2 refl (omega arith)) (keep 2 3 refl (omega arith)) (keep 2 4 refl (omega arith)) (keep 2 5 refl (omega arith)) (keep 2 6 refl (omega arith)))
    (same_seven (keep 3 0 refl (omega arith)) (keep 3 1 refl (omega arith)) (keep 3 2 refl (omega arith)) (put 3 refl (omega arith)) (keep 3 4 refl (omega arith)) (keep 3 5 refl (omega arith)) (keep 3 6 refl (omega arith)))
    (same_seven (keep 4 0 refl (omega arith)) (keep 4 1 refl (omega arith)) (keep 4 2 refl (omega arith)) (keep 4 3 refl (omega arith)) (put 4 refl (omega arith)) (keep 4 5 refl (omega arith)) (keep 4 6 refl (omega arith)))
    (same_seven (keep 5 0 refl (omega arith)) (keep 5 1 refl (omega arith)) (keep 5 2 refl (omega arith)) (keep 5 3 refl (omega arith)) (keep 5 4 refl (omega arith)) (put 5 refl (omega arith)) (keep 5 6 refl (omega arith)))
    (same_seven (keep 6 0 refl (omega arith)) (keep 6 1 refl (omega arith)) (keep 6 2 refl (omega arith)) (keep 6 3 refl (omega arith)) (keep 6 4 refl (omega arith)) (keep 6 5 refl (omega arith)) (put 6 refl (omega arith)))
    i h
