-- The set of a list's tasks: who is in it, with one more at the end, and without the
-- oldest. No task waits twice, so that no two of the powers of two meet.
use Rattle.std.proofs.Common.{◌≡◌, ℕ, ◌+◌, ◌-◌, ◌^◌, ◌≤◌, Bool, true, false, ◌||◌, eqb, List, [], ◌∷◌, ◌++◌, refl, ap, ◌∙◌, arith}
use native.Mathlib.Nat.{div-eq_of_lt}
use Rattle.std.proofs.lemmas.Nat.{pow_pos}
use Rattle.std.proofs.lemmas.Bool.{or_parts, or_left, cond-true, eq-eqb}
use Rattle.queue.specs.Waiting.{waits, lawful}
use Rattle.sets.specs.Sets.{holds, without}
use Rattle.masks.specs.Sets.{members}
use Rattle.sets.proofs.Put.{holds_more}
use Rattle.queue.proofs.Lawful.{oldest_of, lawful_from}

-- a task is in the set of a list exactly if it waits there
pub holds_members : (xs : List ℕ) (t : ℕ) → lawful xs ≡ true → 1 ≤ t → holds (members xs) t ≡ waits xs t
holds_members [] t h low = rw (div-eq_of_lt (pow_pos (t - 1)))
holds_members (x ∷ xs) t h low =
    let f = oldest_of x xs h in
    let e : members (x ∷ xs) ≡ members xs + 2 ^ (x - 1) = omega arith in
    ap (λ (n : ℕ). holds n t) e ∙ holds_more (members xs) x t f.low low (holds_members xs x f.behind f.low ∙ f.once) ∙ ap (λ (b : Bool). eqb x t || b) (holds_members xs t f.behind low)

pub members_push : (xs : List ℕ) (t : ℕ) → members (xs ++ t ∷ []) ≡ members xs + 2 ^ (t - 1)
members_push [] t = omega arith
members_push (x ∷ xs) t = omega (arith, members_push xs t)

-- the front and the back of a lawful list
not_in_front : (ys zs : List ℕ) (x : ℕ) → waits (ys ++ zs) x ≡ false → waits ys x ≡ false
not_in_front [] zs x h = refl
not_in_front (y ∷ ys) zs x h =
    let p = or_parts (eqb y x) (waits (ys ++ zs) x) h in rw p.0 (not_in_front ys zs x p.1)

pub lawful_front : (ys zs : List ℕ) → lawful (ys ++ zs) ≡ true → lawful ys ≡ true
lawful_front [] zs h = refl
lawful_front (y ∷ ys) zs h =
    let f = oldest_of y (ys ++ zs) h in
    lawful_from y ys (record { low = f.low; high = f.high; once = not_in_front ys zs y f.once; behind = lawful_front ys zs f.behind })

pub lawful_back : (ys zs : List ℕ) → lawful (ys ++ zs) ≡ true → lawful zs ≡ true
lawful_back [] zs h = h
lawful_back (y ∷ ys) zs h = lawful_back ys zs (oldest_of y (ys ++ zs) h).behind

pub without_oldest : (t : ℕ) (xs : List ℕ) → lawful (t ∷ xs) ≡ true → without (members (t ∷ xs)) t ≡ members xs
without_oldest t xs h =
    let here = holds_members (t ∷ xs) t h (oldest_of t xs h).low ∙ or_left (eqb t t) (waits xs t) (eq-eqb t t refl) in
    cond-true (holds (members (t ∷ xs)) t) (members (t ∷ xs) - 2 ^ (t - 1)) (members (t ∷ xs)) here ∙ omega arith
