-- A ring of 64 places: how many stand in it, who waits, and one more at its end. While
-- fewer than 64 stand in it, the place behind the last is none of theirs.
use Rattle.std.proofs.Common.{◌≡◌, ℕ, zero, suc, ◌+◌, ◌%◌, ◌<◌, Bool, true, ◌||◌, eqb, ◌≢◌, List, [], ◌∷◌, ◌++◌, length, get_or, set, refl, ap, ◌∙◌, add-one, arith}
use Rattle.std.specs.List.{list_any, range_with_len}
use Rattle.std.proofs.lemmas.List.{get_or-set_same, get_or-set_other}
use Rattle.queue.specs.Waiting.{waits, can_join, lawful}
use Rattle.queue.specs.Round.{round}
use Rattle.queue.proofs.Lawful.{joins_of, lawful_push}
use Rattle.queue.proofs.Distinct.{room}

pub length_round : (xs : List ℕ) (i n : ℕ) → length (round xs i n) ≡ n
length_round xs i zero = refl
length_round xs i (suc n) = ap suc (length_round xs ((i + 1) % 64) n)

-- one more in the place behind the last, while there is room
round_push : (xs : List ℕ) (v i n j : ℕ) → length xs ≡ 64 → i < 64 → n < 64 → j ≡ (i + n) % 64 → round (set xs j v) i (suc n) ≡ round xs i n ++ v ∷ []
round_push xs v i zero j l h k e =
    let same : i ≡ j = omega arith in
    ap (λ (x : ℕ). x ∷ []) (ap (λ (p : ℕ). get_or (set xs j v) p 0) same ∙ get_or-set_same xs j v 0 (omega arith))
round_push xs v i (suc n) j l h k e =
    let other : i ≢ j = λ q. omega arith in
    let behind = round_push xs v ((i + 1) % 64) n j l (omega arith) (omega arith) (omega arith) in
    let here = get_or-set_other xs j i v 0 other in
    cc

-- a task that can join finds room, and joins at the end
pub round_join : (xs : List ℕ) (v i n : ℕ) → length xs ≡ 64 → i < 64 → lawful (round xs i n) ≡ true → can_join (round xs i n) v ≡ true → (n < 64) × (round (set xs ((i + n) % 64) v) i (n + 1) ≡ round xs i n ++ v ∷ []) × (lawful (round (set xs ((i + n) % 64) v) i (n + 1)) ≡ true)
round_join xs v i n l h w may =
    let j = joins_of (round xs i n) v may in
    let less : n < 64 = omega (arith, room (round xs i n) v w j.low j.high j.none, length_round xs i n) in
    let e : round (set xs ((i + n) % 64) v) i (n + 1) ≡ round xs i n ++ v ∷ [] = rw add-one (round_push xs v i n ((i + n) % 64) l h less refl) in
    (less, e, ap lawful e ∙ lawful_push (round xs i n) v w j.low j.high j.none)

-- a task waits if it stands at one of the places
pub round_waits : (xs : List ℕ) (i n t a : ℕ) → list_any (λ k. eqb (get_or xs ((i + k) % 64) 0) t) (range_with_len a n) ≡ waits (round xs ((i + a) % 64) n) t
round_waits xs i zero t a = refl
round_waits xs i (suc n) t a =
    let next : ((i + a) % 64 + 1) % 64 ≡ (i + (a + 1)) % 64 = omega arith in
    rw next (ap (λ (b : Bool). eqb (get_or xs ((i + a) % 64) 0) t || b) (round_waits xs i n t (a + 1)))
