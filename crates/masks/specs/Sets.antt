-- The list of waiting tasks that sets of tasks tell: for each task the set of those before it.
use Rattle.std.specs.Prelude.{◌≡◌, ℕ, zero, suc, ◌+◌, ◌-◌, ◌^◌, Bool, true, cond, ◌&&◌, List, [], ◌∷◌, ◌++◌, ◌==◌, slice_index}
use Rattle.queue.specs.Waiting.{lawful}
use Rattle.sets.specs.Sets.{holds}

-- the set of the tasks of a list
abbrev pub members : List ℕ → ℕ
members [] = 0
members (x ∷ xs) = 2 ^ (x - 1) + members xs

-- the set of those before a task
abbrev pub set_before : List ℕ → ℕ → ℕ
set_before sets t = slice_index sets (t - 1)

-- of the tasks from 1 to n in the set left, the one that has exactly the set done before it
unfoldable pub next : List ℕ → ℕ → ℕ → ℕ → ℕ
next sets done left zero = 0
next sets done left (suc n) = cond (holds left (suc n) && set_before sets (suc n) == done) (suc n) (next sets done left n)

-- those in the set left, n at most, in their order behind those in the set done
unfoldable pub in_turn : List ℕ → ℕ → ℕ → ℕ → List ℕ
in_turn sets done left zero = []
in_turn sets done left (suc n) =
    cond (left == 0) [] (next sets done left 64 ∷ in_turn sets (done + 2 ^ (next sets done left 64 - 1)) (left - 2 ^ (next sets done left 64 - 1)) n)

-- the list of all that wait, who are those in the set who
abbrev pub waiting_of : List ℕ → ℕ → List ℕ
waiting_of sets who = cond (who == 0) [] (in_turn sets 0 who 64)

-- behind the tasks ys each of a list has the set of exactly those before it
abbrev pub nested : List ℕ → List ℕ → List ℕ → Bool
nested sets ys [] = true
nested sets ys (x ∷ xs) = set_before sets x == members ys && nested sets (ys ++ x ∷ []) xs

-- the sets are those of a lawful list, and the set of who waits is that of its tasks
abbrev pub Kept : List ℕ → ℕ → List ℕ → Type 0
Kept sets who xs = (lawful xs ≡ true) × (who ≡ members xs) × (nested sets [] xs ≡ true)
