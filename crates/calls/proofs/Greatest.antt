-- The best place of a list of tasks by cost is the first of the greatest cost.
use Rattle.std.proofs.Common.{◌≡◌, ℕ, zero, suc, ◌+◌, ◌<◌, ◌≤◌, eqb, List, [], ◌∷◌, length, get_or, Some, sym, ap, ◌∙◌, arith}
use Rattle.std.proofs.lemmas.List.{get_or-map, length-map}
use Rattle.std.proofs.lemmas.Bool.{eq-eqb, ne_eqb, cond-true, cond-false}
use Rattle.lines.specs.declared.place.Role.TheVariants.{Reader}
use Rattle.calls.specs.declared.record.Record.{Record}
use Rattle.calls.specs.Costs.{costliest_task, costs, first_with, greatest}
use Rattle.calls.specs.Records.{fresh}

le_greatest : (ns : List ℕ) (k : ℕ) → k < length ns → get_or ns k 0 ≤ greatest ns
le_greatest [] k h = absurd (omega arith)
le_greatest (n ∷ ns) zero h = omega arith
le_greatest (n ∷ ns) (suc k) h = let l = le_greatest ns k (omega arith) in omega arith

greatest_le : (ns : List ℕ) (m : ℕ) → ((k : ℕ) → k < length ns → get_or ns k 0 ≤ m) → greatest ns ≤ m
greatest_le [] m h = omega arith
greatest_le (n ∷ ns) m h =
    let here : n ≤ m = h 0 (omega arith) in
    let rest = greatest_le ns m (λ k l. h (suc k) (omega arith)) in
    omega arith

first_with_is : (n : ℕ) (ns : List ℕ) (b : ℕ) → b < length ns → get_or ns b 0 ≡ n → ((k : ℕ) → k < b → get_or ns k 0 ≡ n → ⊥) → first_with n ns ≡ b
first_with_is n [] b h e before = absurd (omega arith)
first_with_is n (m ∷ ms) zero h e before = cond-true (eqb m n) 0 (suc (first_with n ms)) (eq-eqb m n e)
first_with_is n (m ∷ ms) (suc b) h e before =
    cond-false (eqb m n) 0 (suc (first_with n ms)) (ne_eqb m n (before 0 (omega arith))) ∙ ap suc (first_with_is n ms b (omega arith) e (λ k l. before (suc k) (omega arith)))

-- b is the first place of the cost m, which is the greatest among those of the first i tasks
abbrev pub Leads : List Record → (i b m : ℕ) → Type 0
Leads tasks i b m =
    (b < length tasks)
    × ((d : Record) → m ≡ (get_or tasks b d).account.cost)
    × ((k : ℕ) (d : Record) → k < i → k < length tasks → (get_or tasks k d).account.cost ≤ m)
    × ((k : ℕ) (d : Record) → k < b → (get_or tasks k d).account.cost < m)

module _ (tasks : List Record) (b m : ℕ) (best : Leads tasks (length tasks) b m) where
  cost_at : (k : ℕ) → k < length tasks → get_or (costs tasks) k 0 ≡ (get_or tasks k (fresh Reader)).account.cost
  cost_at k h = get_or-map (λ (r : Record). r.account.cost) tasks k (fresh Reader) 0 h

  count : length (costs tasks) ≡ length tasks
  count = length-map tasks (λ (r : Record). r.account.cost)

  greatest_is : greatest (costs tasks) ≡ get_or (costs tasks) b 0
  greatest_is =
      let within = best.0 in
      let low = le_greatest (costs tasks) b (omega (arith, count)) in
      let high = greatest_le (costs tasks) (get_or (costs tasks) b 0) (λ k h. let l : k < length tasks = omega (arith, count) in omega (arith, cost_at k l, cost_at b within, best.1 (fresh Reader), best.2 k (fresh Reader) l l)) in
      omega arith

  place_is : first_with (greatest (costs tasks)) (costs tasks) ≡ b
  place_is =
      let within = best.0 in
      first_with_is (greatest (costs tasks)) (costs tasks) b (omega (arith, count)) (sym greatest_is) (λ k h e. omega (arith, cost_at k (omega arith), cost_at b within, greatest_is, best.1 (fresh Reader), best.3 k (fresh Reader) h))

  pub costliest_is : Some (b + 1) ≡ costliest_task tasks
  costliest_is =
      let within = best.0 in
      ap Some (ap (λ (n : ℕ). n + 1) (sym place_is)) ∙ sym (cond-false (eqb (length tasks) 0) _ _ (ne_eqb (length tasks) 0 (λ e. omega arith)))
