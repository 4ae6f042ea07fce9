-- What the sets of a queue tell of the list that they are kept for, and the sets after
-- a join and after a quit.
use Rattle.std.proofs.Common.{◌≡◌, ℕ, zero, suc, ◌+◌, ◌-◌, ◌^◌, ◌≤◌, Bool, true, false, ◌&&◌, cond, eqb, List, [], ◌∷◌, ◌++◌, map, length, set, sym, refl, ap, ◌∙◌, subst, ⊎_elim, arith}
use Rattle.std.proofs.lemmas.Nat.{pow_pos}
use Rattle.std.proofs.lemmas.Bool.{and_parts, and_from, or_left, or_from, eqb-true, eq-eqb, ne_eqb, cases_eq, cases_Bool, both_ways, and_left, and_right, false_from_ne_true}
use Rattle.queue.specs.Waiting.{waits, oldest, rest, can_join}
use Rattle.sets.specs.Sets.{holds, without, count_to, is_task, contained, put_in, taken_out}
use Rattle.sets.proofs.Known.{task_bounds, contained_task, put_in_task}
use Rattle.sets.proofs.Put.{joined_sum}
use Rattle.masks.specs.Sets.{set_before, waiting_of, nested, Kept}
use Rattle.queue.proofs.Distinct.{tally, tally_waiting, at_most_64}
use Rattle.queue.proofs.Lawful.{oldest_of, joins_of, waits_task, oldest_task, lawful_push}
use Rattle.masks.proofs.Members.{holds_members, members_push, without_oldest}
use Rattle.masks.proofs.Nested.{at_least, in_turn_is, nested_push, nested_rest}

-- the sets tell the list that they are kept for
kept_waiting : (sets : List ℕ) (who : ℕ) (xs : List ℕ) → Kept sets who xs → waiting_of sets who ≡ xs
kept_waiting sets who [] k = rw k.1
kept_waiting sets who (x ∷ xs) k =
    let some : eqb who 0 ≡ false = ne_eqb who 0 (λ q. omega (arith, k.1, pow_pos (x - 1))) in
    rw (some, k.1) (in_turn_is sets [] (x ∷ xs) 64 (at_most_64 (x ∷ xs) k.0) k.0 k.2)

-- who waits, how many, and who is the oldest
kept_waits : (sets : List ℕ) (who : ℕ) (xs : List ℕ) (t : ℕ) → Kept sets who xs → 1 ≤ t → holds who t ≡ waits xs t
kept_waits sets who xs t k low = ap (λ (w : ℕ). holds w t) k.1 ∙ holds_members xs t k.0 low

-- of any number: one that is no task's is in no set, and does not wait
pub contained_waits : (sets : List ℕ) (who : ℕ) (xs : List ℕ) (t : ℕ) → Kept sets who xs → contained who t ≡ waits xs t
contained_waits sets who xs t k =
    ⊎_elim
    (λ yes'. let b = task_bounds t yes' in contained_task who t b.0 b.1 ∙ kept_waits sets who xs t k b.0)
    (λ no'. and_left (is_task t) (holds who t) no' ∙ sym (false_from_ne_true (waits xs t) (λ w. both_ways (is_task t) no' (waits_task xs t k.0 w))))
    (cases_Bool (is_task t))

tally_same : (p q : ℕ → Bool) → ((t : ℕ) → 1 ≤ t → p t ≡ q t) → (n : ℕ) → tally p n ≡ tally q n
unfolding tally
tally_same p q e zero = refl
tally_same p q e (suc n) = let here = e (suc n) (omega arith) in let fewer = tally_same p q e n in cc

count_tally : (set n : ℕ) → count_to n set ≡ tally (holds set) n
unfolding tally
count_tally set zero = refl
count_tally set (suc n) = omega (arith, count_tally set n)

pub counted_length : (sets : List ℕ) (who : ℕ) (xs : List ℕ) → Kept sets who xs → count_to 64 who ≡ length xs
counted_length sets who xs k = count_tally who 64 ∙ tally_same (holds who) (waits xs) (λ t. kept_waits sets who xs t k) 64 ∙ tally_waiting xs k.0

kept_oldest : (sets : List ℕ) (who : ℕ) (xs : List ℕ) (t : ℕ) → Kept sets who xs → 1 ≤ t → (holds who t && eqb (set_before sets t) 0) ≡ oldest xs t
kept_oldest sets who [] t k low = and_left (holds who t) (eqb (set_before sets t) 0) (kept_waits sets who [] t k low)
kept_oldest sets who (x ∷ xs) t k low =
    let p = and_parts (eqb (set_before sets x) 0) (nested sets (x ∷ []) xs) k.2 in
    let there = kept_waits sets who (x ∷ xs) t k low in
    ⊎_elim
    (λ e.
    let same = eq-eqb x t e in
    and_from (holds who t) (eqb (set_before sets t) 0) (there ∙ or_left (eqb x t) (waits xs t) same) (ap (λ (u : ℕ). eqb (set_before sets u) 0) (sym e) ∙ p.0) ∙ sym same)
    (λ ne.
    let differs = ne_eqb x t ne in
    ⊎_elim
    (λ in'. and_right (holds who t) (eqb (set_before sets t) 0) (ne_eqb (set_before sets t) 0 (λ q. omega (arith, at_least sets (x ∷ []) xs t p.1 in', pow_pos (x - 1)))) ∙ sym differs)
    (λ out. and_left (holds who t) (eqb (set_before sets t) 0) (there ∙ or_from (eqb x t) (waits xs t) differs out) ∙ sym differs)
    (cases_Bool (waits xs t)))
    (cases_eq x t)

pub contained_oldest : (sets : List ℕ) (who : ℕ) (xs : List ℕ) (t : ℕ) → Kept sets who xs → (contained who t && eqb (set_before sets t) 0) ≡ oldest xs t
contained_oldest sets who xs t k =
    ⊎_elim
    (λ yes'. let b = task_bounds t yes' in ap (λ (c : Bool). c && eqb (set_before sets t) 0) (contained_task who t b.0 b.1) ∙ kept_oldest sets who xs t k b.0)
    (λ no'. and_left (contained who t) (eqb (set_before sets t) 0) (and_left (is_task t) (holds who t) no') ∙ sym (false_from_ne_true (oldest xs t) (λ w. both_ways (is_task t) no' (oldest_task xs t k.0 w))))
    (cases_Bool (is_task t))

-- they are kept for the list with one more, and for the list without the oldest
kept_push : (sets : List ℕ) (who : ℕ) (xs : List ℕ) (t : ℕ) → length sets ≡ 64 → 1 ≤ t → t ≤ 64 → waits xs t ≡ false → Kept sets who xs → Kept (set sets (t - 1) who) (who + 2 ^ (t - 1)) (xs ++ t ∷ [])
kept_push sets who xs t l low high none k =
    (lawful_push xs t k.0 low high none, omega (arith, k.1, members_push xs t), nested_push sets [] xs who t l low high k.0 none k.1 k.2)

kept_rest : (sets : List ℕ) (who : ℕ) (xs : List ℕ) (t : ℕ) → length sets ≡ 64 → Kept sets who xs → oldest xs t ≡ true → Kept (map (λ m. without m t) sets) (without who t) (rest xs)
kept_rest sets who [] t l k o = absurd (both_ways false refl o)
kept_rest sets who (x ∷ xs) t l k o =
    let p = and_parts (eqb (set_before sets x) 0) (nested sets (x ∷ []) xs) k.2 in
    let q : Kept (map (λ m. without m x) sets) (without who x) xs =
    ((oldest_of x xs k.0).behind, ap (λ (w : ℕ). without w x) k.1 ∙ without_oldest x xs k.0, nested_rest sets [] xs x l k.0 p.1) in
    subst (λ (u : ℕ). Kept (map (λ m. without m u) sets) (without who u) xs) (eqb-true x t o) q

-- the sets after a join and after a quit: the list that they tell, and that they are kept for it
abbrev pub Tells : List ℕ → ℕ → List ℕ → Type 0
Tells sets who xs = (waiting_of sets who ≡ xs) × Kept sets who (waiting_of sets who)

tells : (sets : List ℕ) (who : ℕ) (xs : List ℕ) → Kept sets who xs → Tells sets who xs
tells sets who xs k = let e = kept_waiting sets who xs k in (e, subst (Kept sets who) (sym e) k)

kept_join : (sets : List ℕ) (who t who' : ℕ) → length sets ≡ 64 → Kept sets who (waiting_of sets who) → 1 ≤ t → t ≤ 64 → waits (waiting_of sets who) t ≡ false → who' ≡ who + 2 ^ (t - 1) → Tells (set sets (t - 1) who) who' (waiting_of sets who ++ t ∷ [])
kept_join sets who t who' l k low high none e =
    tells (set sets (t - 1) who) who' (waiting_of sets who ++ t ∷ []) (subst (λ (w : ℕ). Kept (set sets (t - 1) who) w (waiting_of sets who ++ t ∷ [])) (sym e) (kept_push sets who (waiting_of sets who) t l low high none k))

pub kept_put_in : (sets : List ℕ) (who t who' : ℕ) → length sets ≡ 64 → Kept sets who (waiting_of sets who) → can_join (waiting_of sets who) t ≡ true → who' ≡ put_in who t → Tells (set sets (t - 1) who) who' (waiting_of sets who ++ t ∷ [])
kept_put_in sets who t who' l k may e =
    let j = joins_of (waiting_of sets who) t may in
    kept_join sets who t who' l k j.low j.high j.none (e ∙ put_in_task who t j.low j.high ∙ joined_sum who t (kept_waits sets who (waiting_of sets who) t k j.low ∙ j.none))

pub kept_quit : (sets sets' : List ℕ) (who t who' : ℕ) → length sets ≡ 64 → Kept sets who (waiting_of sets who) → oldest (waiting_of sets who) t ≡ true → sets' ≡ map (λ m. taken_out m t) sets → who' ≡ taken_out who t → Tells sets' who' (rest (waiting_of sets who))
kept_quit sets sets' who t who' l k o d e =
    let r = rest (waiting_of sets who) in
    let task : is_task t ≡ true = oldest_task (waiting_of sets who) t k.0 o in
    let q : Kept (map (λ m. taken_out m t) sets) (taken_out who t) r =
    subst (λ (b : Bool). Kept (map (λ m. cond b (without m t) m) sets) (cond b (without who t) who) r) (sym task) (kept_rest sets who (waiting_of sets who) t l k o) in
    tells sets' who' r (subst (λ (w : ℕ). Kept sets' w r) (sym e) (subst (λ (ms : List ℕ). Kept ms (taken_out who t) r) (sym d) q))
