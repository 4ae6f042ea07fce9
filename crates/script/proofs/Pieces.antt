-- The first line and the first field, cut off.
use Rattle.std.proofs.Common.{◌≡◌, ℕ, suc, ◌+◌, ◌<◌, true, false, not, cond, eqb, List, [], ◌∷◌, length, take, drop, Err, refl, ap, add-one, one-add, arith, length-drop}
use Rattle.std.proofs.lemmas.List.{drop-drop, drop_all, take_all, at_drop_more, at_drop_all}
use Rattle.script.specs.declared.refusal.Refusal.TheVariants as why
use Rattle.script.specs.Cuts.{before, onto, lines, fields, later_fields}
use Rattle.script.specs.Fields.{ended}

pub first_field : (xs : List ℕ) → fields xs ≡ take (before 32 xs) xs ∷ later_fields (drop (before 32 xs) xs)
first_field [] = refl
first_field (x ∷ xs) =
    elim (eqb x 32) as (λ v. cond v ([] ∷ fields xs) (onto x (fields xs)) ≡ take (cond (not v) (1 + before 32 xs) 0) (x ∷ xs) ∷ later_fields (drop (cond (not v) (1 + before 32 xs) 0) (x ∷ xs)))
    [ true ↦ refl | false ↦ rw one-add (ap (onto x) (first_field xs)) ]

-- a field that a space ends
pub ended_field : (xs : List ℕ) (end : ℕ) → before 32 xs ≡ end → end < length xs → fields xs ≡ take end xs ∷ fields (drop (end + 1) xs)
ended_field xs end is lt =
    let first = first_field xs in
    let later = at_drop_more later_fields xs end 0 lt in
    cc

-- the last field
pub last_field : (xs : List ℕ) → before 32 xs ≡ length xs → fields xs ≡ xs ∷ []
last_field xs is =
    let first = first_field xs in
    let whole = take_all (before 32 xs) xs (omega arith) in
    let later = at_drop_all later_fields xs (before 32 xs) (omega arith) in
    cc

pub some_field : (xs : List ℕ) → Err why.Fields ≡ ended (fields xs)
some_field xs = rw (first_field xs) refl

pub first_line : (xs : List ℕ) → 0 < length xs → lines xs ≡ take (before 10 xs) xs ∷ lines (drop (suc (before 10 xs)) xs)
first_line [] h = absurd (omega arith)
first_line (x ∷ []) h =
    elim (eqb x 10) as (λ v. cond v ([] ∷ []) ((x ∷ []) ∷ []) ≡ take (cond (not v) 1 0) (x ∷ []) ∷ lines (drop (suc (cond (not v) 1 0)) (x ∷ [])))
    [ true ↦ refl | false ↦ refl ]
first_line (x ∷ y ∷ xs) h =
    elim (eqb x 10) as (λ v. cond v ([] ∷ lines (y ∷ xs)) (onto x (lines (y ∷ xs))) ≡ take (cond (not v) (1 + before 10 (y ∷ xs)) 0) (x ∷ y ∷ xs) ∷ lines (drop (suc (cond (not v) (1 + before 10 (y ∷ xs)) 0)) (x ∷ y ∷ xs)))
    [ true ↦ refl | false ↦ rw one-add (ap (onto x) (first_line (y ∷ xs) (omega arith))) ]

-- the lines of s from the place `at` on, where another follows
pub next_line : (s : List ℕ) (at : ℕ) → at < length s → let rest = drop at s in lines rest ≡ take (before 10 rest) rest ∷ lines (drop (at + before 10 rest + 1) s)
next_line s at h =
    let rest = drop at s in
    let end = before 10 rest in
    let some : 0 < length rest = simp length-drop (omega arith) in
    let first = first_line rest some in
    let next = add-one end in
    let past = drop-drop (end + 1) at s in
    let same : at + end + 1 ≡ at + (end + 1) = omega arith in
    cc

-- where no byte 10 is left
pub last_line : (s : List ℕ) (at : ℕ) → at < length s → let rest = drop at s in before 10 rest ≡ length rest → lines rest ≡ rest ∷ lines (drop (length s) s)
last_line s at h none =
    let rest = drop at s in
    let end = before 10 rest in
    let next = next_line s at h in
    let whole = take_all end rest (omega arith) in
    let past = drop_all (at + end + 1) s (omega (arith, length-drop at s)) in
    let ended = drop_all (length s) s (omega arith) in
    cc
