-- What a count says of the elements: none, one or two of them pass.
use Rattle.std.proofs.Common.{◌≡◌, ℕ, suc, ◌+◌, ◌<◌, ◌≤◌, Bool, true, false, cond, ◌⊎◌, List, [], ◌∷◌, length, get_or, take, drop, count_by, sym, ap, ◌∙◌, inl, inr, add-zero, arith}
use Rattle.std.proofs.lemmas.List.{length-take, length-drop, get_or-take, get_or-drop}
use Rattle.std.proofs.lemmas.List.Sums.{sum_by-cons, sum_by-take-drop, sum_by-drop_more, get_or-le-sum_by}
use Rattle.std.proofs.lemmas.Bool.{cases_Bool, cases_lt, cases_order, cond_both, cond-false, both_ways}

module _ {X : Type 0} (p : X → Bool) (d : X) where
  at_most_one : (x : X) → cond (p x) 1 0 ≤ 1
  at_most_one x = cond_both (p x) 1 0 (λ n. n ≤ 1) (λ e. omega arith) (λ e. omega arith)

  -- one that passes is counted
  pub counts_one : (xs : List X) (i : ℕ) → i < length xs → p (get_or xs i d) ≡ true → 0 < count_by p xs
  counts_one xs i h e =
      let n : cond (p (get_or xs i d)) 1 0 ≤ count_by p xs = get_or-le-sum_by (λ x. cond (p x) 1 0) xs i d h in
      let m : 1 ≤ count_by p xs = rw e at n in
      omega arith

  -- two that pass are counted
  counts_two_in_order : (xs : List X) (i j : ℕ) → i < j → j < length xs → p (get_or xs i d) ≡ true → p (get_or xs j d) ≡ true → 1 < count_by p xs
  counts_two_in_order xs i j o h e f =
      let front : i < length (take j xs) = simp length-take (omega arith) in
      let back : 0 < length (drop j xs) = simp length-drop (omega arith) in
      let m = counts_one (take j xs) i front (ap p (get_or-take j xs i d o) ∙ e) in
      let n = counts_one (drop j xs) 0 back (ap p (get_or-drop j xs 0 d) ∙ rw add-zero f) in
      let s : count_by p (take j xs) + count_by p (drop j xs) ≡ count_by p xs = sum_by-take-drop (λ x. cond (p x) 1 0) xs j in
      omega arith

  pub counts_two : (xs : List X) (i j : ℕ) → i < length xs → j < length xs → (i ≡ j → ⊥) → p (get_or xs i d) ≡ true → p (get_or xs j d) ≡ true → 1 < count_by p xs
  counts_two xs i j hi hj ne e f =
      elim (cases_order i j) [
        | inl same ↦ absurd (ne same)
        | inr (inl below) ↦ counts_two_in_order xs i j below hj e f
        | inr (inr above) ↦ counts_two_in_order xs j i above hi f e
      ]

  -- what is counted passes somewhere
  pub counted_one : (xs : List X) → 0 < count_by p xs → (k : ℕ) × (k < length xs) × (p (get_or xs k d) ≡ true)
  counted_one [] h = absurd (omega arith)
  counted_one (x ∷ xs) h =
      let s : count_by p (x ∷ xs) ≡ cond (p x) 1 0 + count_by p xs = sum_by-cons (λ y. cond (p y) 1 0) x xs in
      elim (cases_Bool (p x)) [
        | inl e ↦ (0, omega arith, e)
        | inr e ↦
            let none : cond {A = ℕ} (p x) 1 0 ≡ 0 = cond-false (p x) 1 0 e in
            let (k, l, f) = counted_one xs (omega arith) in
            (suc k, omega arith, f)
      ]

  -- of two that are counted one is elsewhere than at i
  pub counted_other : (xs : List X) (i : ℕ) → i < length xs → 1 < count_by p xs → (k : ℕ) × (k < length xs) × (k ≡ i → ⊥) × (p (get_or xs k d) ≡ true)
  counted_other xs i l h =
      let f : X → ℕ = λ x. cond (p x) 1 0 in
      let whole : count_by p (take i xs) + count_by p (drop i xs) ≡ count_by p xs = sum_by-take-drop f xs i in
      let back : count_by p (drop i xs) ≡ cond (p (get_or xs i d)) 1 0 + count_by p (drop (i + 1) xs) = sum_by-drop_more f xs i d l in
      let here = at_most_one (get_or xs i d) in
      elim (cases_lt 0 (count_by p (take i xs))) [
        | inl some ↦
            let (k, in-front, e) = counted_one (take i xs) some in
            let below : k < i = omega (arith, length-take i xs) in
            (k, omega arith, (λ same. omega arith), sym (ap p (get_or-take i xs k d below)) ∙ e)
        | inr none ↦
            let (k, behind, e) = counted_one (drop (i + 1) xs) (omega arith) in
            (i + 1 + k, omega (arith, length-drop (i + 1) xs), (λ same. omega arith), sym (ap p (get_or-drop (i + 1) xs k d)) ∙ e)
      ]

-- Two classes, of which q is within p: no two stand apart, one in q and the other in p, exactly when none is in q or at most one in p.
module _ {X : Type 0} (q p : X → Bool) (within : (x : X) → q x ≡ true → p x ≡ true) (d : X) (xs : List X) where
  abbrev pub Apart : Type 0
  Apart = (i j : ℕ) → i < length xs → j < length xs → (i ≡ j → ⊥) → q (get_or xs i d) ≡ true → p (get_or xs j d) ≡ false

  pub apart_from_counts : (count_by q xs ≡ 0) ⊎ (count_by p xs ≤ 1) → Apart
  apart_from_counts few i j hi hj ne e =
      elim (cases_Bool (p (get_or xs j d))) [
        | inr off ↦ off
        | inl on ↦
            let some = counts_one q d xs i hi e in
            let two = counts_two p d xs i j hi hj ne (within (get_or xs i d) e) on in
            absurd (elim few [ inl none ↦ omega arith | inr one ↦ omega arith ])
      ]

  pub counts_from_apart : Apart → (count_by q xs ≡ 0) ⊎ (count_by p xs ≤ 1)
  counts_from_apart apart =
      elim (cases_lt 0 (count_by q xs)) [
        | inr none ↦ inl (omega arith)
        | inl some ↦
            elim (cases_lt 1 (count_by p xs)) [
              | inr few ↦ inr few
              | inl two ↦
                  let (i, hi, e) = counted_one q d xs some in
                  let (j, hj, ne, f) = counted_other p d xs i hi two in
                  absurd (both_ways (p (get_or xs j d)) (apart i j hi hj (λ same. ne (sym same)) e) f)
            ]
      ]
