-- Sets that nest in the order of a list tell that list; they still do where a task
-- joins at the end and where the oldest is taken out of them.
use Rattle.std.proofs.Common.{◌≡◌, ℕ, zero, suc, ◌-◌, ◌^◌, ◌≤◌, true, false, ◌&&◌, eqb, ◌≢◌, List, [], ◌∷◌, ◌++◌, map, length, set, sym, refl, ap, ◌∙◌, subst, ⊎_elim, arith}
use Rattle.std.proofs.lemmas.Nat.{pow_pos}
use Rattle.std.proofs.lemmas.List.{append-nil, append_assoc, get_or-set_same, get_or-set_other, get_or-map}
use Rattle.std.proofs.lemmas.Bool.{and_parts, and_from, or_cases, or_parts, or_left, eqb-true, eqb-false, eq-eqb, ne_eqb, cases_Bool, both_ways}
use Rattle.queue.specs.Waiting.{waits, lawful}
use Rattle.sets.specs.Sets.{holds, without}
use Rattle.masks.specs.Sets.{members, set_before, next, in_turn, nested}
use Rattle.queue.proofs.Lawful.{oldest_of}
use Rattle.masks.proofs.Members.{holds_members, members_push, lawful_front, lawful_back, without_oldest}

-- whoever waits has at least the set in front of the list before it
pub at_least : (sets ys xs : List ℕ) (u : ℕ) → nested sets ys xs ≡ true → waits xs u ≡ true → members ys ≤ set_before sets u
at_least sets ys [] u h in' = absurd (both_ways false refl in')
at_least sets ys (x ∷ xs) u h in' =
    let p = and_parts (eqb (set_before sets x) (members ys)) (nested sets (ys ++ x ∷ []) xs) h in
    ⊎_elim
    (λ e. let same : x ≡ u = eqb-true x u e in let m = eqb-true (set_before sets x) (members ys) p.0 in omega (arith, ap (set_before sets) same))
    (λ e. omega (arith, at_least sets (ys ++ x ∷ []) xs u p.1 e, members_push ys x))
    (or_cases (eqb x u) (waits xs u) in')

-- the one task that comes next
next_is : (sets : List ℕ) (done left x n : ℕ) → 1 ≤ x → x ≤ n → holds left x ≡ true → set_before sets x ≡ done → ((u : ℕ) → 1 ≤ u → holds left u ≡ true → set_before sets u ≡ done → u ≡ x) → next sets done left n ≡ x
unfolding next
next_is sets done left x zero low high in' e only = absurd (omega arith)
next_is sets done left x (suc n) low high in' e only =
    ⊎_elim
    (λ yes'.
    let p = and_parts (holds left (suc n)) (eqb (set_before sets (suc n)) done) yes' in
    rw yes' (only (suc n) (omega arith) p.0 (eqb-true (set_before sets (suc n)) done p.1)))
    (λ no'.
    let ne : x ≡ suc n → ⊥ = λ q. both_ways (holds left (suc n) && eqb (set_before sets (suc n)) done) no' (subst (λ (k : ℕ). (holds left k && eqb (set_before sets k) done) ≡ true) q (and_from (holds left x) (eqb (set_before sets x) done) in' (eq-eqb (set_before sets x) done e))) in
    rw no' (next_is sets done left x n low (omega (arith, ne)) in' e only))
    (cases_Bool (holds left (suc n) && eqb (set_before sets (suc n)) done))

-- the list that the sets tell is the one that they are kept for
pub in_turn_is : (sets ys xs : List ℕ) (n : ℕ) → length xs ≤ n → lawful xs ≡ true → nested sets ys xs ≡ true → in_turn sets (members ys) (members xs) n ≡ xs
unfolding in_turn
in_turn_is sets ys [] zero l h w = refl
in_turn_is sets ys [] (suc n) l h w = refl
in_turn_is sets ys (x ∷ xs) zero l h w = absurd (omega arith)
in_turn_is sets ys (x ∷ xs) (suc n) l h w =
    let f = oldest_of x xs h in
    let p = and_parts (eqb (set_before sets x) (members ys)) (nested sets (ys ++ x ∷ []) xs) w in
    let here = holds_members (x ∷ xs) x h f.low ∙ or_left (eqb x x) (waits xs x) (eq-eqb x x refl) in
    let found : next sets (members ys) (members (x ∷ xs)) 64 ≡ x =
    next_is sets (members ys) (members (x ∷ xs)) x 64 f.low f.high here (eqb-true (set_before sets x) (members ys) p.0)
    (λ u low in' e. ⊎_elim (λ q. sym (eqb-true x u q))
    (λ q. absurd (omega (arith, at_least sets (ys ++ x ∷ []) xs u p.1 q, members_push ys x, pow_pos (x - 1))))
    (or_cases (eqb x u) (waits xs u) (sym (holds_members (x ∷ xs) u h low) ∙ in'))) in
    let some : eqb (members (x ∷ xs)) 0 ≡ false = ne_eqb (members (x ∷ xs)) 0 (λ q. omega (arith, pow_pos (x - 1))) in
    let left : members (x ∷ xs) - 2 ^ (x - 1) ≡ members xs = omega arith in
    rw (some, found, left, ← members_push ys x) (ap (λ (zs : List ℕ). x ∷ zs) (in_turn_is sets (ys ++ x ∷ []) xs n (omega arith) f.behind p.1))

-- one more at the end, with the set of all that wait before it
pub nested_push : (sets ys xs : List ℕ) (who t : ℕ) → length sets ≡ 64 → 1 ≤ t → t ≤ 64 → lawful xs ≡ true → waits xs t ≡ false → who ≡ members (ys ++ xs) → nested sets ys xs ≡ true → nested (set sets (t - 1) who) ys (xs ++ t ∷ []) ≡ true
nested_push sets ys [] who t l low high h none e w =
    let own = get_or-set_same sets (t - 1) who 0 (omega arith) ∙ e ∙ ap members (append-nil ys) in
    and_from (eqb (set_before (set sets (t - 1) who) t) (members ys)) true (eq-eqb (set_before (set sets (t - 1) who) t) (members ys) own) refl
nested_push sets ys (x ∷ xs) who t l low high h none e w =
    let f = oldest_of x xs h in
    let p = and_parts (eqb (set_before sets x) (members ys)) (nested sets (ys ++ x ∷ []) xs) w in
    let q = or_parts (eqb x t) (waits xs t) none in
    let other : x - 1 ≢ t - 1 = λ same. eqb-false x t q.0 (omega (arith, f.low)) in
    let own = get_or-set_other sets (t - 1) (x - 1) who 0 other ∙ eqb-true (set_before sets x) (members ys) p.0 in
    and_from (eqb (set_before (set sets (t - 1) who) x) (members ys)) (nested (set sets (t - 1) who) (ys ++ x ∷ []) (xs ++ t ∷ []))
    (eq-eqb (set_before (set sets (t - 1) who) x) (members ys) own)
    (nested_push sets (ys ++ x ∷ []) xs who t l low high f.behind q.1 (e ∙ ap members (sym (append_assoc ys (x ∷ []) xs))) p.1)

-- the oldest taken out of every set
pub nested_rest : (sets ys xs : List ℕ) (t : ℕ) → length sets ≡ 64 → lawful (t ∷ (ys ++ xs)) ≡ true → nested sets (t ∷ ys) xs ≡ true → nested (map (λ m. without m t) sets) ys xs ≡ true
nested_rest sets ys [] t l h w = refl
nested_rest sets ys (x ∷ xs) t l h w =
    let p = and_parts (eqb (set_before sets x) (members (t ∷ ys))) (nested sets (t ∷ (ys ++ x ∷ [])) xs) w in
    let b = oldest_of x xs (lawful_back (t ∷ ys) (x ∷ xs) h) in
    let front = lawful_front (t ∷ ys) (x ∷ xs) h in
    let out = without_oldest t ys front in
    let own = get_or-map (λ m. without m t) sets (x - 1) 0 0 (omega (arith, b.low, b.high)) ∙ ap (λ (m : ℕ). without m t) (eqb-true (set_before sets x) (members (t ∷ ys)) p.0) ∙ out in
    and_from (eqb (set_before (map (λ m. without m t) sets) x) (members ys)) (nested (map (λ m. without m t) sets) (ys ++ x ∷ []) xs)
    (eq-eqb (set_before (map (λ m. without m t) sets) x) (members ys) own)
    (nested_rest sets (ys ++ x ∷ []) xs t l (ap (λ (zs : List ℕ). lawful (t ∷ zs)) (append_assoc ys (x ∷ []) xs) ∙ h) p.1)
