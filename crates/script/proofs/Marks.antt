-- The first mark among some bytes.
use Rattle.std.proofs.Common.{◌≡◌, ℕ, zero, suc, ◌+◌, ◌*◌, ◌<◌, ◌≤◌, Bool, true, false, not, cond, List, [], ◌∷◌, map, length, take, drop, None, Some, Option, MatchOption, refl, sym, ap, ◌∙◌, arith}
use Rattle.std.specs.Int.Count.{count_trailing_zeros}
use Rattle.std.specs.List.{position_or_len}
use Rattle.std.specs.Simd.Lanes.{mask_l}
use Rattle.std.proofs.lemmas.Bool.{false_from_ne_true}
use Rattle.std.proofs.lemmas.List.Sums.{position_or_len_is}
use Rattle.std.proofs.lemmas.Simd.{trailing_mask_l, length-chunk}
use Rattle.memchr.specs.Find.{IsFirstByte, is_byte}
use Rattle.script.specs.Cuts.{before}

-- what a search through all of them found
pub found : (b : ℕ) (xs : List ℕ) (r : Option ℕ) → IsFirstByte (is_byte b) xs r → MatchOption r (before b xs ≡ length xs) (λ at. (before b xs ≡ at) × (at < length xs))
found b xs None h = position_or_len_is (is_byte b) xs (length xs) 0 (omega arith) (λ k lt. false_from_ne_true _ (h k (omega arith) lt)) (λ lt. absurd (omega arith))
found b xs (Some k) h = (position_or_len_is (is_byte b) xs k 0 (omega (arith, h.0.high)) (λ q lt. false_from_ne_true _ (h.0.before q (omega arith) lt)) (λ lt. h.1), h.0.high)

module _ (p : ℕ → Bool) where
  one_more : (b : Bool) (m i j : ℕ) → 0 < cond b 1 0 + 2 * m → (0 < m → i ≡ j) → cond (not b) (1 + i) 0 ≡ cond (not b) (1 + j) 0
  one_more true m i j some same = refl
  one_more false m i j some same = ap (λ n. 1 + n) (same (omega arith))

  in_front : (n : ℕ) (xs : List ℕ) → 0 < mask_l (map p (take n xs)) → position_or_len p (take n xs) ≡ position_or_len p xs
  in_front zero xs some = absurd (omega arith)
  in_front (suc n) [] some = refl
  in_front (suc n) (x ∷ xs) some = one_more (p x) (mask_l (map p (take n xs))) _ _ some (in_front n xs)

  one_longer : (b : Bool) (m i j : ℕ) → 0 < cond b 1 0 + 2 * m → (0 < m → i < j) → cond (not b) (1 + i) 0 < suc j
  one_longer true m i j some lt = omega arith
  one_longer false m i j some lt = omega (arith, lt (omega arith))

  stands : (n : ℕ) (xs : List ℕ) → 0 < mask_l (map p (take n xs)) → position_or_len p xs < length xs
  stands zero xs some = absurd (omega arith)
  stands (suc n) [] some = absurd (omega arith)
  stands (suc n) (x ∷ xs) some = one_longer (p x) (mask_l (map p (take n xs))) _ _ some (stands n xs)

  -- the lowest bit of the mask m of the first n, where one is set
  pub lowest_mark : (n : ℕ) (xs : List ℕ) (m : ℕ) → n ≤ 64 → n ≤ length xs → m ≡ mask_l (map p (take n xs)) → 0 < m → (position_or_len p xs ≡ count_trailing_zeros 64 m) × (count_trailing_zeros 64 m < length xs)
  lowest_mark n xs m small long is some =
      let set : 0 < mask_l (map p (take n xs)) = omega arith in
      let same = ap (count_trailing_zeros 64) is ∙ trailing_mask_l p 64 (take n xs) (omega (arith, length-chunk 0 n xs (omega arith))) set ∙ in_front n xs set in
      (sym same, omega (arith, same, stands n xs set))

  one_passed : (b : Bool) (m n i j : ℕ) → cond b 1 0 + 2 * m ≡ 0 → (m ≡ 0 → i ≡ n + j) → cond (not b) (1 + i) 0 ≡ suc n + j
  one_passed true m n i j none same = absurd (omega arith)
  one_passed false m n i j none same = omega (arith, same (omega arith))

  -- no bit of the mask of the first n is set
  pub none_marked : (n : ℕ) (xs : List ℕ) → n ≤ length xs → mask_l (map p (take n xs)) ≡ 0 → position_or_len p xs ≡ n + position_or_len p (drop n xs)
  none_marked zero xs long none = omega arith
  none_marked (suc n) [] long none = absurd (omega arith)
  none_marked (suc n) (x ∷ xs) long none = one_passed (p x) (mask_l (map p (take n xs))) n _ _ none (none_marked n xs (omega arith))
