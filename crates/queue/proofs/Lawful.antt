-- A lawful list: what its test says of the oldest and of those behind it, that only
-- tasks wait in it, and that it stays lawful where a task joins that does not wait.
use Rattle.std.proofs.Common.{◌≡◌, ℕ, ◌≤◌, true, false, not, ◌&&◌, eqb, leb, List, [], ◌∷◌, ◌++◌, sym, refl, ⊎_elim, arith}
use Rattle.std.proofs.lemmas.Bool.{and_parts, and_from, or_parts, or_from, or_left, or_cases, both_ways, not-true, not_from_false, leb-true, le-leb, eqb-true, eqb-false, ne_eqb}
use Rattle.queue.specs.Waiting.{waits, oldest, can_join, lawful}

-- the oldest is a task that does not wait again behind itself
pub record Oldest (x : ℕ) (xs : List ℕ) : Type 0 where
  pub low : 1 ≤ x
  pub high : x ≤ 64
  pub once : waits xs x ≡ false
  pub behind : lawful xs ≡ true

pub oldest_of : (x : ℕ) (xs : List ℕ) → lawful (x ∷ xs) ≡ true → Oldest x xs
oldest_of x xs h =
    let parts = and_parts (leb 1 x && leb x 64) (not (waits xs x) && lawful xs) h in
    let task = and_parts (leb 1 x) (leb x 64) parts.0 in
    let others = and_parts (not (waits xs x)) (lawful xs) parts.1 in
    record { low = leb-true 1 x task.0; high = leb-true x 64 task.1; once = not-true (waits xs x) others.0; behind = others.1 }

pub lawful_from : (x : ℕ) (xs : List ℕ) → Oldest x xs → lawful (x ∷ xs) ≡ true
lawful_from x xs o =
    and_from (leb 1 x && leb x 64) (not (waits xs x) && lawful xs)
    (and_from (leb 1 x) (leb x 64) (le-leb 1 x o.low) (le-leb x 64 o.high))
    (and_from (not (waits xs x)) (lawful xs) (not_from_false (waits xs x) o.once) o.behind)

-- who waits is a task
pub waits_task : (xs : List ℕ) (t : ℕ) → lawful xs ≡ true → waits xs t ≡ true → (leb 1 t && leb t 64) ≡ true
waits_task [] t h w = absurd (both_ways false refl w)
waits_task (x ∷ xs) t h w =
    let o = oldest_of x xs h in
    ⊎_elim
    (λ e. let same = eqb-true x t e in and_from (leb 1 t) (leb t 64) (le-leb 1 t (omega arith)) (le-leb t 64 (omega arith)))
    (waits_task xs t o.behind)
    (or_cases (eqb x t) (waits xs t) w)

-- and so is the oldest
pub oldest_task : (xs : List ℕ) (t : ℕ) → lawful xs ≡ true → oldest xs t ≡ true → (leb 1 t && leb t 64) ≡ true
oldest_task [] t h w = absurd (both_ways false refl w)
oldest_task (x ∷ xs) t h w = waits_task (x ∷ xs) t h (or_left (eqb x t) (waits xs t) w)

-- who can join is a task that does not wait
pub record Joins (xs : List ℕ) (t : ℕ) : Type 0 where
  pub low : 1 ≤ t
  pub high : t ≤ 64
  pub none : waits xs t ≡ false

pub joins_of : (xs : List ℕ) (t : ℕ) → can_join xs t ≡ true → Joins xs t
joins_of xs t h =
    let parts = and_parts (leb 1 t && leb t 64) (not (waits xs t)) h in
    let task = and_parts (leb 1 t) (leb t 64) parts.0 in
    record { low = leb-true 1 t task.0; high = leb-true t 64 task.1; none = not-true (waits xs t) parts.1 }

-- who does not wait, does not wait either once another has joined
not_in_push : (xs : List ℕ) (t x : ℕ) → waits xs x ≡ false → eqb t x ≡ false → waits (xs ++ t ∷ []) x ≡ false
not_in_push [] t x h other = or_from (eqb t x) false other refl
not_in_push (y ∷ ys) t x h other =
    let p = or_parts (eqb y x) (waits ys x) h in or_from (eqb y x) (waits (ys ++ t ∷ []) x) p.0 (not_in_push ys t x p.1 other)

pub lawful_push : (xs : List ℕ) (t : ℕ) → lawful xs ≡ true → 1 ≤ t → t ≤ 64 → waits xs t ≡ false → lawful (xs ++ t ∷ []) ≡ true
lawful_push [] t h low high none = lawful_from t [] (record { low = low; high = high; once = refl; behind = refl })
lawful_push (x ∷ xs) t h low high none =
    let o = oldest_of x xs h in
    let p = or_parts (eqb x t) (waits xs t) none in
    let other : eqb t x ≡ false = ne_eqb t x (λ e. eqb-false x t p.0 (sym e)) in
    lawful_from x (xs ++ t ∷ []) (record { low = o.low; high = o.high; once = not_in_push xs t x o.once other; behind = lawful_push xs t o.behind low high p.1 })
