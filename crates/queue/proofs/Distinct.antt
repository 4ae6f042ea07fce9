-- At most 64 tasks wait, since none waits twice: the length of a lawful list is
-- the count of the numbers from 1 to 64 that wait in it.
use Rattle.std.proofs.Common.{◌≡◌, ℕ, zero, suc, ◌+◌, ◌<◌, ◌≤◌, Bool, true, false, cond, leb, List, [], ◌∷◌, ◌++◌, length, sym, refl, ap, ◌∙◌, ⊎_elim, arith}
use Rattle.std.proofs.lemmas.List.{length_push}
use Rattle.std.proofs.lemmas.Bool.{le-leb, lt-leb, ne_eqb, eq-eqb, cases_eq}
use Rattle.std.proofs.lemmas.Bool.Decides.{nat_tests}
use Rattle.queue.specs.Waiting.{waits, lawful}
use Rattle.queue.proofs.Lawful.{oldest_of, lawful_push}

-- how many of the numbers from 1 to n pass a test
unfoldable pub tally : (ℕ → Bool) → ℕ → ℕ
tally p zero = 0
tally p (suc n) = cond (p (suc n)) 1 0 + tally p n

tally_le : (p : ℕ → Bool) (n : ℕ) → tally p n ≤ n
unfolding tally
tally_le p zero = omega arith
tally_le p (suc n) =
    let fewer = tally_le p n in
    elim (p (suc n)) as (λ b. cond b 1 0 + tally p n ≤ suc n) [ true ↦ omega arith | false ↦ omega arith ]

tally_none : (n : ℕ) → tally (waits []) n ≡ 0
unfolding tally
tally_none zero = refl
tally_none (suc n) = omega (arith, tally_none n)

up_to : (x n : ℕ) → (x ≡ suc n → ⊥) → leb x (suc n) ≡ leb x n
up_to x n ne = grind (arith, nat_tests)

-- a task that does not wait yet counts one more, once n reaches it
one_more : (x : ℕ) (xs : List ℕ) → waits xs x ≡ false → (n : ℕ) → 1 ≤ x → tally (waits (x ∷ xs)) n ≡ tally (waits xs) n + cond (leb x n) 1 0
unfolding tally
one_more x xs none zero low = rw (lt-leb x 0 low)
one_more x xs none (suc n) low =
    let fewer = one_more x xs none n low in
    ⊎_elim
    (λ e.
    let here : waits xs (suc n) ≡ false = ap (waits xs) (sym e) ∙ none in
    let below : leb x n ≡ false = lt-leb x n (omega arith) in
    rw (eq-eqb x (suc n) e, here, le-leb x (suc n) (omega arith)) (omega (arith, rw below at fewer)))
    (λ ne. rw (ne_eqb x (suc n) ne, up_to x n ne) (omega (arith, one_more x xs none n low)))
    (cases_eq x (suc n))

pub tally_waiting : (xs : List ℕ) → lawful xs ≡ true → tally (waits xs) 64 ≡ length xs
tally_waiting [] h = tally_none 64
tally_waiting (x ∷ xs) h =
    let o = oldest_of x xs h in
    let e : leb x 64 ≡ true = le-leb x 64 o.high in
    one_more x xs o.once 64 o.low ∙ rw e (omega (arith, tally_waiting xs o.behind))

pub at_most_64 : (xs : List ℕ) → lawful xs ≡ true → length xs ≤ 64
at_most_64 xs h = omega (arith, tally_waiting xs h, tally_le (waits xs) 64)

-- so a task that does not wait finds room
pub room : (xs : List ℕ) (t : ℕ) → lawful xs ≡ true → 1 ≤ t → t ≤ 64 → waits xs t ≡ false → length xs < 64
room xs t h low high none = omega (arith, at_most_64 (xs ++ t ∷ []) (lawful_push xs t h low high none), length_push xs t)
