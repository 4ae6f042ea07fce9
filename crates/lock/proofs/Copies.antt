-- Which copies a task holds, read from the masks of the cache layer, and what a deed makes of them and charges in units.
use Rattle.std.proofs.Common.{◌≡◌, ℕ, ◌-◌, ◌*◌, ◌/◌, ◌^◌, ◌<◌, ◌≤◌, true, false, cond, eqb, ◌≢◌, List, length, get_or, set, refl, sym, ap, ◌∙◌, inl, inr, arith}
use native.Mathlib.Nat.{zero-div}
use Rattle.std.proofs.lemmas.Bool.{cases_eq, cases_Bool, eq-eqb, ne_eqb}
use Rattle.std.proofs.lemmas.List.{get_or-set_same, get_or-set_other, length-set}
use Rattle.std.specs.Prelude.{MatchBool}
use Rattle.sets.specs.Sets.{holds, joined}
use Rattle.sets.proofs.Put.{joins}
use Rattle.memory.specs.declared.operation.Operation.{Operation}
use Rattle.memory.specs.declared.operation.Operation.TheVariants.{Read}
use Rattle.memory.specs.declared.interface.Memory.{Ghosts}
use Rattle.memory.specs.Calls.{Doing, Kept}
use Rattle.memory.specs.Cells.{zeros}
use Rattle.memory.specs.Operations.{cell_of}
use Rattle.cache.specs.Layers.{cached}
use Rattle.cache.specs.Copies.{Cached}
use Rattle.lines.specs.declared.deed.Deed.{Deed}
use Rattle.lines.specs.declared.deed.Deed.TheVariants.{Touch}
use Rattle.lines.specs.declared.place.Line.{Line}
use Rattle.lines.specs.declared.place.Line.TheVariants.{L2}
use Rattle.lines.specs.declared.track.Track.{Track}
use Rattle.lines.specs.Lines.{deed_of}
use Rattle.calls.specs.Steps.{Shares}
use Rattle.calls.specs.Opening.{Wrote, opening_writes}
use Rattle.lock.specs.Copying.{ChargesByCopies}
use Rattle.lock.specs.Counted.{CostsOne, masks_after, unit_share}
use Rattle.lock.proofs.Opened.{afters, seven_of, wrote_so}
use Rattle.lock.proofs.Costs.{Units, charge, other_copies, own_copies, purse}

-- 1 where task t holds a copy of cell k, else 0
abbrev pub flag : List ℕ → ℕ → ℕ → ℕ
flag masks t k = cond (holds (get_or masks k 0) t) 1 0

-- a deed that touches a cell touches one of the seven
abbrev pub TouchesKnown : Deed → Type 0
TouchesKnown (Touch op) = cell_of op < 7
TouchesKnown d = Unit {0}

pub touches_known : (l : Line) (t : ℕ) (r : Track) → TouchesKnown (deed_of l t r)
touches_known L2 t r = tt
touches_known l t r = grind arith

pub length-masks_after : (d : Deed) (t : ℕ) (masks : List ℕ) → length (masks_after d t masks) ≡ length masks
length-masks_after (Touch (Read c)) t masks = elim (cases_Bool (holds (get_or masks c 0) t)) [ inl held ↦ rw held | inr free ↦ rw free (length-set masks c _) ]
length-masks_after (Touch op) t masks = length-set masks (cell_of op) 0
length-masks_after d t masks = refl

pub unit_share-charge : (d : Deed) (t : ℕ) (masks : List ℕ) → unit_share d t masks ≡ charge d (flag masks t)
unit_share-charge (Touch (Read c)) t masks = elim (cases_Bool (holds (get_or masks c 0) t)) [ inl held ↦ rw held | inr free ↦ rw free ]
unit_share-charge d t masks = refl

holds_none : (t : ℕ) → holds 0 t ≡ false
holds_none t = let e : 0 / 2 ^ (t - 1) ≡ 0 = zero-div (2 ^ (t - 1)) in rw e

module _ (masks : List ℕ) (seven : length masks ≡ 7) where
  flag-set : (c n u k : ℕ) → c < 7 → flag (set masks c n) u k ≡ cond (eqb c k) (cond (holds n u) 1 0) (flag masks u k)
  flag-set c n u k known = elim (cases_eq c k) [
    | inl same ↦ rw (eq-eqb c k same, ← same, get_or-set_same masks c n 0 (omega arith))
    | inr other ↦ rw (ne_eqb c k other, get_or-set_other masks c k n 0 (λ e. other (sym e)))
  ]

  -- nobody holds a copy of a cell that is emptied
  flag_emptied : (c u k : ℕ) → c < 7 → flag (set masks c 0) u k ≡ cond (eqb c k) 0 (flag masks u k)
  flag_emptied c u k known = flag-set c 0 u k known ∙ rw (holds_none u)

  pub flag_own : (d : Deed) (t k : ℕ) → TouchesKnown d → 1 ≤ t → flag (masks_after d t masks) t k ≡ own_copies d (flag masks t) k
  flag_own (Touch (Read c)) t k known h = elim (cases_Bool (holds (get_or masks c 0) t)) [
    | inl held ↦ rw held (elim (cases_eq c k) [ inl same ↦ rw (eq-eqb c k same, ← same, held) | inr other ↦ rw (ne_eqb c k other) ])
    | inr free ↦ rw free (flag-set c (joined (get_or masks c 0) t) t k known ∙ rw ((joins (get_or masks c 0) t h).0))
  ]
  flag_own (Touch op) t k known h = flag_emptied (cell_of op) t k known
  flag_own d t k known h = refl

  pub flag_other : (d : Deed) (t u k : ℕ) → TouchesKnown d → 1 ≤ t → 1 ≤ u → u ≢ t → flag (masks_after d t masks) u k ≡ other_copies d (flag masks u) k
  flag_other (Touch (Read c)) t u k known h j apart = elim (cases_Bool (holds (get_or masks c 0) t)) [
    | inl held ↦ rw held
    | inr free ↦ rw free (flag-set c (joined (get_or masks c 0) t) u k known ∙ rw ((joins (get_or masks c 0) t h).1 u j apart) (elim (cases_eq c k) [ inl same ↦ rw (eq-eqb c k same, ← same) | inr other ↦ rw (ne_eqb c k other) ]))
  ]
  flag_other (Touch op) t u k known h j apart = flag_emptied (cell_of op) u k known
  flag_other d t u k known h j apart = refl

-- the same of a purse, which looks at three cells

pub purse_own : (d : Deed) (t : ℕ) (masks : List ℕ) (a : Units) → length masks ≡ 7 → TouchesKnown d → 1 ≤ t → purse a (flag (masks_after d t masks) t) ≡ purse a (own_copies d (flag masks t))
purse_own d t masks a seven known h = rw (flag_own masks seven d t 2 known h, flag_own masks seven d t 4 known h, flag_own masks seven d t 6 known h)

pub purse_other : (d : Deed) (t u : ℕ) (masks : List ℕ) (a : Units) → length masks ≡ 7 → TouchesKnown d → 1 ≤ t → 1 ≤ u → u ≢ t → purse a (flag (masks_after d t masks) u) ≡ purse a (other_copies d (flag masks u))
purse_other d t u masks a seven known h j apart = rw (flag_other masks seven d t u 2 known h j apart, flag_other masks seven d t u 4 known h j apart, flag_other masks seven d t u 6 known h j apart)

-- a share of at most so many units, each within the ceiling, with these masks left and the ceiling as it was
pub record Charged (ceiling units : ℕ) (masks : List ℕ) (share ceiling' : ℕ) (masks' : List ℕ) : Type 0 where
  pub within : share ≤ ceiling * units
  pub left : masks' ≡ masks
  pub same_ceiling : ceiling' ≡ ceiling

-- a deed of task t is charged by its units
abbrev pub ChargedByUnits : Deed → ℕ → ℕ → List ℕ → ℕ → ℕ → List ℕ → Type 0
ChargedByUnits d t ceiling masks share ceiling' masks' = Charged ceiling (unit_share d t masks) (masks_after d t masks) share ceiling' masks'

-- the cache layer charges each operation so, over any memory
module _ {S : Type 0} (cells : S → List ℕ) (top : S → ℕ) (does : Doing S) (law : (s t : S) (task : ℕ) (op : Operation) (share : ℕ) → does s task op share t → Kept cells top s op share t) where
  pub cached_charged : (s t : S) (masks masks' : List ℕ) (task : ℕ) (op : Operation) (share : ℕ) → Cached does s masks task op share t masks' → ChargedByUnits (Touch op) task (top s) masks share (top t) masks'
  cached_charged s t masks masks' task (Read c) share d =
      let more = set masks c (joined (get_or masks c 0) task) in
      (elim (holds (get_or masks c 0) task) as (λ v. MatchBool v ((share ≡ 0) × (t ≡ s) × (masks' ≡ masks)) (does s task (Read c) share t × (masks' ≡ more)) → Charged (top s) (cond v 0 1) (cond v masks more) share (top t) masks') [
        | true ↦ λ e. record { within = omega arith; left = e.2; same_ceiling = ap top e.1 }
        | false ↦ λ e. let kept = law s t task (Read c) share e.0 in record { within = omega arith; left = e.1; same_ceiling = kept.2 }
      ]) d
  cached_charged s t masks masks' task op share d = let kept = law s t task op share d.0 in record { within = omega arith; left = d.1; same_ceiling = kept.2 }

-- so it charges by copies
pub cached_by_copies : {B : Type 0} (mem : Ghosts B) → ((s t : B) (task : ℕ) (op : Operation) (share : ℕ) → mem.does s task op share t → Kept mem.cells mem.top s op share t) → ChargesByCopies (cached mem) (λ m. m.copies.masks)
cached_by_copies mem law =
    record {
      seven = λ m. m.copies.seven;
      share = λ m n t op told d. (cached_charged mem.cells mem.top mem.does law m.below n.below m.copies.masks n.copies.masks t op told d).within;
      copies = λ m n t op told d. (cached_charged mem.cells mem.top mem.does law m.below n.below m.copies.masks n.copies.masks t op told d).left;
    }

-- a memory that charges each operation so charges each deed of a line so
module _ {M : Type 0} (does : Doing M) (masks : M → List ℕ) (top : M → ℕ) (law : (m n : M) (t : ℕ) (op : Operation) (share : ℕ) → does m t op share n → ChargedByUnits (Touch op) t (top m) (masks m) share (top n) (masks n)) where
  pub deed_charged : (d : Deed) (m n : M) (t share : ℕ) → Shares does m t d share n → ChargedByUnits d t (top m) (masks m) share (top n) (masks n)
  deed_charged (Touch op) m n t share e = law m n t op share e
  deed_charged d m n t share e = record { within = omega arith; left = ap masks e.1; same_ceiling = ap top e.1 }

-- Where each operation below costs 1, the charge is the units.

pub record Exact (units : ℕ) (masks : List ℕ) (share : ℕ) (masks' : List ℕ) : Type 0 where
  pub paid : share ≡ units
  pub left : masks' ≡ masks

abbrev pub ExactUnits : Deed → ℕ → List ℕ → ℕ → List ℕ → Type 0
ExactUnits d t masks share masks' = Exact (unit_share d t masks) (masks_after d t masks) share masks'

module _ {S : Type 0} (does : Doing S) (one : CostsOne does) where
  pub cached_exact : (s t : S) (masks masks' : List ℕ) (task : ℕ) (op : Operation) (share : ℕ) → Cached does s masks task op share t masks' → ExactUnits (Touch op) task masks share masks'
  cached_exact s t masks masks' task (Read c) share d =
      let more = set masks c (joined (get_or masks c 0) task) in
      (elim (holds (get_or masks c 0) task) as (λ v. MatchBool v ((share ≡ 0) × (t ≡ s) × (masks' ≡ masks)) (does s task (Read c) share t × (masks' ≡ more)) → Exact (cond v 0 1) (cond v masks more) share masks') [
        | true ↦ λ e. record { paid = e.0; left = e.2 }
        | false ↦ λ e. record { paid = one s t task (Read c) share e.0; left = e.1 }
      ]) d
  cached_exact s t masks masks' task op share d = record { paid = one s t task op share d.0; left = d.1 }

module _ {M : Type 0} (does : Doing M) (masks : M → List ℕ) (law : (m n : M) (t : ℕ) (op : Operation) (share : ℕ) → does m t op share n → ExactUnits (Touch op) t (masks m) share (masks n)) where
  pub deed_exact : (d : Deed) (m n : M) (t share : ℕ) → Shares does m t d share n → ExactUnits d t (masks m) share (masks n)
  deed_exact (Touch op) m n t share e = law m n t op share e
  deed_exact d m n t share e = record { paid = e.0; left = ap masks e.1 }

-- Opening writes every cell, so nobody holds a copy then: over any memory that leaves the masks so.
module _ {M : Type 0} (does : Doing M) (masks : M → List ℕ) (leaves : (m n : M) (t : ℕ) (op : Operation) (share : ℕ) → does m t op share n → masks n ≡ masks_after (Touch op) t (masks m)) where
  pub opened_masks : (m n : M) → length (masks m) ≡ 7 → Wrote does m opening_writes n → masks n ≡ zeros
  opened_masks m n seven w =
      let step = λ (op : Operation). masks_after (Touch op) 1 in
      wrote_so does masks step (λ m n op share d. leaves m n 1 op share d) opening_writes m n w ∙ ap (afters step opening_writes) (seven_of (masks m) seven)
