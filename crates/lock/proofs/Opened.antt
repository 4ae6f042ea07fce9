-- A lock that was opened.
use Rattle.std.proofs.Common.{ltb, ◌&&◌, ◌≡◌, ℕ, ◌+◌, ◌<◌, ◌≤◌, true, List, [], ◌∷◌, ◌++◌, map, length, get_or, take, set, replicate, None, Ok, Result, Option, sym, refl, ap, ◌∙◌, subst, arith}
use Rattle.std.proofs.lemmas.List.{length-set, take_more_set, map_more, take_all}
use Rattle.std.specs.List.{list_all}
use Rattle.std.proofs.lemmas.Bool.{lt-ltb}
use Rattle.std.proofs.lemmas.List.Elements.{All-replicate}
use Rattle.std.proofs.lemmas.List.Sums.{list_all-from_AllPass}
use Rattle.memory.specs.declared.operation.Operation.{Operation}
use Rattle.memory.specs.Calls.{Doing, Kept}
use Rattle.memory.specs.Operations.{after}
use Rattle.calls.specs.declared.record.Record.{Record}
use Rattle.calls.specs.declared.refusal.Refusal.{Refusal}
use Rattle.lines.specs.declared.place.Role.TheVariants.{Reader}
use Rattle.calls.specs.Records.{fresh, in_order}
use Rattle.calls.proofs.Sound.{fresh_in_order}
use Rattle.calls.specs.States.{State}
use Rattle.lines.specs.Roles.{is_role, role_of}
use Rattle.calls.specs.Opening.{Opens, Wrote, are_roles, enlisted, opened_to, opening_cells, opening_writes}
use Rattle.lock.proofs.Kept.{pass_set}

pub each_role : (bs : List ℕ) → list_all is_role bs ≡ are_roles bs
each_role [] = refl
each_role (b ∷ bs) = ap (λ v. is_role b && v) (each_role bs)

-- the records of the first i tasks stand
pub record Enlisted (all : List Record) (roles : List ℕ) (i : ℕ) : Type 0 where
  pub places : length all ≡ 64
  pub ordered : list_all in_order all ≡ true
  pub first : take i all ≡ map enlisted (take i roles)

-- records of which none ever began
pub fresh_all : (n : ℕ) (r : Record) → r ≡ fresh Reader → list_all in_order (replicate n r) ≡ true
fresh_all n r new = list_all-from_AllPass in_order (replicate n r) (All-replicate (λ x. in_order x ≡ true) n r (ap in_order new ∙ fresh_in_order Reader))

pub enlist_more : (all : List Record) (roles : List ℕ) (i : ℕ) (r : Record) → Enlisted all roles i → i < length roles → length roles ≤ 64 → r ≡ enlisted (get_or roles i 0) → Enlisted (set all i r) roles (i + 1)
enlist_more all roles i r e less few new = let kept = ap in_order new ∙ fresh_in_order (role_of (get_or roles i 0)) in record {
  places = length-set all i r ∙ e.places;
  ordered = pass_set in_order all i r e.ordered kept;
  first = take_more_set all i r (omega (arith, e.places)) ∙ ap (λ ys. ys ++ r ∷ []) e.first ∙ ap (λ y. map enlisted (take i roles) ++ y ∷ []) new ∙ sym (map_more enlisted roles i 0 less);
}

pub enlisted_all : (all : List Record) (roles : List ℕ) (i : ℕ) → Enlisted all roles i → i ≡ length roles → take (length roles) all ≡ map enlisted roles
enlisted_all all roles i e is = subst (λ n. take n all ≡ map enlisted (take n roles)) is e.first ∙ ap (map enlisted) (take_all (length roles) roles (omega arith))

-- a lock with these tasks is open
pub open_with : (rs : List Record) (roles : List ℕ) → rs ≡ map enlisted roles → 1 ≤ length roles → ltb 0 (length rs) ≡ true
open_with rs [] is some = absurd (omega (arith, some))
open_with rs (b ∷ bs) is some = ap (λ xs. ltb 0 (length xs)) is ∙ lt-ltb 0 _ (omega arith)

-- what operations make of something, by what one makes of it
abbrev pub afters : {X : Type 0} → (Operation → X → X) → List Operation → X → X
afters step [] x = x
afters step (op ∷ ops) x = afters step ops (step op x)

-- seven numbers are those in the seven places
pub seven_of : (xs : List ℕ) → length xs ≡ 7 → xs ≡ get_or xs 0 0 ∷ get_or xs 1 0 ∷ get_or xs 2 0 ∷ get_or xs 3 0 ∷ get_or xs 4 0 ∷ get_or xs 5 0 ∷ get_or xs 6 0 ∷ []
seven_of (a ∷ b ∷ c ∷ d ∷ f ∷ g ∷ h ∷ []) e = refl
seven_of xs e = absurd (omega arith)

-- what task 1 writes makes that of something in a memory, of which each operation makes this
pub wrote_so : {M X : Type 0} (does : Doing M) (f : M → X) (step : Operation → X → X) → ((m n : M) (op : Operation) (share : ℕ) → does m 1 op share n → f n ≡ step op (f m)) →
    (ops : List Operation) (m n : M) → Wrote does m ops n → f n ≡ afters step ops (f m)
wrote_so does f step law [] m n w = ap f w
wrote_so does f step law (op ∷ ops) m n (k, share, d, w) = wrote_so does f step law ops k n w ∙ ap (afters step ops) (law m k op share d)

module _ {M : Type 0} (cells : M → List ℕ) (top : M → ℕ) (does : Doing M) (law : (s t : M) (task : ℕ) (op : Operation) (share : ℕ) → does s task op share t → Kept cells top s op share t) where
  pub opened_cells : (m n : M) → length (cells m) ≡ 7 → Wrote does m opening_writes n → cells n ≡ opening_cells
  opened_cells m n seven w = wrote_so does cells after (λ m n op share d. (law m n 1 op share d).0) opening_writes m n w ∙ ap (afters after opening_writes) (seven_of (cells m) seven)

  -- task 1 wrote, and the other fields are so
  pub opened_is : (s z : State) (m n : M) (roles : List ℕ) → Wrote does m opening_writes n → z.cells ≡ cells n → length (cells m) ≡ 7 →
      z.number ≡ s.number → z.opened ≡ true → z.waiting ≡ s.waiting → z.records ≡ map enlisted roles → z.table ≡ s.table → z ≡ opened_to roles s
  opened_is s z m n roles w at seven number opened waiting records table =
      let cells_are : z.cells ≡ opening_cells = at ∙ opened_cells m n seven w in
      λ i. record { number = number i; opened = opened i; cells = cells_are i; waiting = waiting i; records = records i; table = table i }

-- no question was answered no, and task 1 wrote
pub opens : {M : Type 0} (does : Doing M) (o : Option Refusal) (s z : State) (m n : M) (roles : List ℕ) → o ≡ None → Wrote does m opening_writes n → z ≡ opened_to roles s → Opens does o s m roles (Ok tt) z n
opens does o s z m n roles asked w now = subst (λ p. Opens does p s m roles (Ok tt) z n) (sym asked) (refl, w, now)

pub opened_then : {M : Type 0} (does : Doing M) (o : Option Refusal) (s z : State) (m n : M) (roles : List ℕ) (r : Result (Unit {0}) Refusal) → o ≡ None → Opens does o s m roles r z n → z ≡ opened_to roles s
opened_then does o s z m n roles r asked h = (subst (λ p. Opens does p s m roles r z n) asked h).2
