-- The records of the tasks are the first of an array, and each is in order.
use Rattle.std.proofs.Common.{◌≡◌, ℕ, zero, suc, Bool, true, List, [], ◌∷◌, take, get_or, set, refl, ap}
use Rattle.calls.specs.declared.record.Record.{Record}
use Rattle.std.specs.List.{list_all}
use Rattle.std.proofs.lemmas.Bool.{and_parts}
use Rattle.std.proofs.lemmas.List.Elements.{All-set}
use Rattle.std.proofs.lemmas.List.Sums.{AllPass-from_list_all, list_all-from_AllPass}

pub first_set : (n : ℕ) (rs : List Record) (i : ℕ) (r : Record) → take n (set rs i r) ≡ set (take n rs) i r
first_set zero rs i r = refl
first_set (suc n) [] i r = refl
first_set (suc n) (x ∷ rs) zero r = refl
first_set (suc n) (x ∷ rs) (suc i) r = ap (λ ys. x ∷ ys) (first_set n rs i r)

pub pass_set : (p : Record → Bool) (rs : List Record) (i : ℕ) (r : Record) → list_all p rs ≡ true → p r ≡ true → list_all p (set rs i r) ≡ true
pass_set p rs i r h k = list_all-from_AllPass p (set rs i r) (All-set (λ x. p x ≡ true) rs i r k (AllPass-from_list_all p rs h))

pub pass_at : {A : Type 0} (p : A → Bool) (xs : List A) (i : ℕ) (d : A) → p d ≡ true → list_all p xs ≡ true → p (get_or xs i d) ≡ true
pass_at p [] i d none h = none
pass_at p (x ∷ xs) zero d none h = (and_parts (p x) (list_all p xs) h).0
pass_at p (x ∷ xs) (suc i) d none h = pass_at p xs i d none (and_parts (p x) (list_all p xs) h).1
