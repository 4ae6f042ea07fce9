-- An operation that is not refused: at most one number is set, to one within the limit, and a larger limit refuses it no more.
use Rattle.std.proofs.Common.{◌≡◌, ℕ, zero, suc, ◌<◌, ◌≤◌, Bool, true, false, cond, List, [], ◌∷◌, get_or, set, leb, ltb, eqb, Some, None, Option, refl, inl, inr, arith}
use Rattle.std.specs.Prelude.{◌⊎◌}
use Rattle.std.proofs.lemmas.Bool.{cases_Bool, le-leb, leb-true, lt-ltb, ltb-true}
use Rattle.memory.specs.declared.refusal.Refusal.{Refusal}
use Rattle.memory.specs.declared.refusal.Refusal.TheVariants.{Task, Cell, Number, Sum}
use Rattle.memory.specs.declared.operation.Step.TheVariants.{Up, Down}
use Rattle.memory.specs.declared.operation.Operation.{Operation}
use Rattle.memory.specs.declared.operation.Operation.TheVariants.{Read, Write, Add, Swap}
use Rattle.memory.specs.Operations.{after, cell_of, number_refusal, refusal}

-- the numbers ys are those of xs, or one of the seven is another within the limit
abbrev pub OneSet : ℕ → List ℕ → List ℕ → Type 0
OneSet limit xs ys = (ys ≡ xs) ⊎ ((c n : ℕ) × (c < 7) × (n ≤ limit) × (ys ≡ set xs c n))

-- a question that does not refuse is answered yes, and so are the others
yes : (b : Bool) (e : Refusal) (o : Option Refusal) → cond b o (Some e) ≡ None → (b ≡ true) × (o ≡ None)
yes true e o h = (refl, h)
yes false e o h = absurd (let z : ◌≡◌ {A = ℕ} 0 1 = cc in omega arith)

known : (limit t : ℕ) (op : Operation) (xs : List ℕ) → refusal limit t op xs ≡ None → (cell_of op < 7) × (number_refusal limit op xs ≡ None)
known limit t op xs free =
    let first = yes (leb 1 t) Task _ free in
    let second = yes (leb t 64) Task _ first.1 in
    let third = yes (ltb (cell_of op) 7) Cell _ second.1 in
    (ltb-true (cell_of op) 7 third.0, third.1)

pub one_set : (limit t : ℕ) (op : Operation) (xs : List ℕ) → ((k : ℕ) → get_or xs k 0 ≤ limit) → refusal limit t op xs ≡ None → OneSet limit xs (after op xs)
one_set limit t (Read c) xs within free = inl refl
one_set limit t (Write c n) xs within free =
    let (low, rest) = known limit t (Write c n) xs free in
    inr (c, n, low, leb-true n limit (yes (leb n limit) Number None rest).0, refl)
one_set limit t (Add c Up) xs within free =
    let (low, rest) = known limit t (Add c Up) xs free in
    let room = ltb-true (get_or xs c 0) limit (yes (ltb (get_or xs c 0) limit) Sum None rest).0 in
    inr (c, _, low, omega (arith, room), refl)
one_set limit t (Add c Down) xs within free =
    let (low, rest) = known limit t (Add c Down) xs free in
    inr (c, _, low, omega (arith, within c), refl)
one_set limit t (Swap c e n) xs within free =
    let (low, rest) = known limit t (Swap c e n) xs free in
    let first = yes (leb e limit) Number _ rest in
    let small = leb-true n limit (yes (leb n limit) Number None first.1).0 in
    elim (cases_Bool (eqb (get_or xs c 0) e)) [
      | inl same ↦ rw same (inr (c, n, low, small, refl))
      | inr other ↦ rw other (inl refl)
    ]

-- each number then stays within the limit
pub set_within : (limit : ℕ) (xs : List ℕ) (c n : ℕ) → ((k : ℕ) → get_or xs k 0 ≤ limit) → n ≤ limit → (k : ℕ) → get_or (set xs c n) k 0 ≤ limit
set_within limit [] c n within small k = within k
set_within limit (x ∷ xs) zero n within small zero = small
set_within limit (x ∷ xs) zero n within small (suc k) = within (suc k)
set_within limit (x ∷ xs) (suc c) n within small zero = within zero
set_within limit (x ∷ xs) (suc c) n within small (suc k) = set_within limit xs c n (λ j. within (suc j)) small k

-- what is not refused at a limit is not refused at a larger one

wider_number : (a b : ℕ) (op : Operation) (xs : List ℕ) → a ≤ b → number_refusal a op xs ≡ None → number_refusal b op xs ≡ None
wider_number a b (Read c) xs more free = refl
wider_number a b (Write c n) xs more free = let small = leb-true n a (yes (leb n a) Number None free).0 in let e = le-leb n b (omega arith) in rw e refl
wider_number a b (Add c Up) xs more free = let small = ltb-true (get_or xs c 0) a (yes (ltb (get_or xs c 0) a) Sum None free).0 in let e = lt-ltb (get_or xs c 0) b (omega arith) in rw e refl
wider_number a b (Add c Down) xs more free = free
wider_number a b (Swap c e n) xs more free =
    let first = yes (leb e a) Number _ free in
    let small = leb-true e a first.0 in
    let small' = leb-true n a (yes (leb n a) Number None first.1).0 in
    let p = le-leb e b (omega arith) in
    let q = le-leb n b (omega arith) in
    rw (p, q) refl

pub wider : (a b t : ℕ) (op : Operation) (xs : List ℕ) → a ≤ b → refusal a t op xs ≡ None → refusal b t op xs ≡ None
wider a b t op xs more free =
    let first = yes (leb 1 t) Task _ free in
    let second = yes (leb t 64) Task _ first.1 in
    let third = yes (ltb (cell_of op) 7) Cell _ second.1 in
    rw (first.0, second.0, third.0) (wider_number a b op xs more third.1)
