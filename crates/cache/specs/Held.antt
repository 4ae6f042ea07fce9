-- What the cache layer keeps of the memory below.
use Rattle.std.specs.Prelude.{◌≡◌, ℕ, true, false, List, MatchBool, slice_index, slice_set}
use Rattle.std.proofs.Common.{ap, arith}
use Rattle.memory.specs.declared.operation.Operation.{Operation}
use Rattle.memory.specs.declared.operation.Operation.TheVariants.{Read, Write, Add, Swap}
use Rattle.memory.specs.Calls.{Doing, Kept}
use Rattle.sets.specs.Sets.{holds, joined}
use Rattle.cache.specs.Copies.{Cached}

module _ {S : Type 0} (cells : S → List ℕ) (top : S → ℕ) (does : Doing S) (law : (s t : S) (task : ℕ) (op : Operation) (share : ℕ) → does s task op share t → Kept cells top s op share t) where
  pub cached_kept : (s t : S) (masks masks' : List ℕ) (task : ℕ) (op : Operation) (share : ℕ) → Cached does s masks task op share t masks' → Kept cells top s op share t
  cached_kept s t masks masks' task (Read c) share d =
      (elim (holds (slice_index masks c) task) as (λ v. MatchBool v ((share ≡ 0) × (t ≡ s) × (masks' ≡ masks)) (does s task (Read c) share t × (masks' ≡ slice_set masks c (joined (slice_index masks c) task))) → Kept cells top s (Read c) share t) [
        | true ↦ λ e. (ap cells e.1, omega arith, ap top e.1)
        | false ↦ λ e. law s t task (Read c) share e.0
      ]) d
  cached_kept s t masks masks' task (Write c n) share d = law s t task (Write c n) share d.0
  cached_kept s t masks masks' task (Add c p) share d = law s t task (Add c p) share d.0
  cached_kept s t masks masks' task (Swap c e n) share d = law s t task (Swap c e n) share d.0
