-- Bytes written at the start of a buffer.
use Rattle.std.specs.Prelude.{◌≡◌, ℕ, ◌+◌, ◌<◌, ◌≤◌, List, ◌++◌, length, drop, Ok, Err, Result}
use Rattle.listing.specs.declared.refusal.Refusal.{Refusal}
use Rattle.listing.specs.declared.refusal.Refusal.TheVariants.{Room}

-- the buffer d with bs at its start, and else as it was
abbrev pub laid : List ℕ → List ℕ → List ℕ
laid d bs = bs ++ drop (length bs) d

-- the buffer d took the m bytes bs, which left it as o
pub record TookBytes (d bs : List ℕ) (m : ℕ) (o : List ℕ) : Type 0 where
  pub room : length bs ≤ length d
  pub count : m ≡ length bs
  pub after : o ≡ laid d bs

-- the same, or d has too little room, and stays as it was
abbrev pub Put : List ℕ → List ℕ → Result ℕ Refusal → List ℕ → Type 0
Put d bs (Ok m) o = TookBytes d bs m o
Put d bs (Err e) o = (length d < length bs) × (e ≡ Room) × (o ≡ d)

-- the same where d is asked to have at least this room, whatever bs is
abbrev pub PutIn : ℕ → List ℕ → List ℕ → Result ℕ Refusal → List ℕ → Type 0
PutIn room d bs (Ok m) o = (room ≤ length d) × TookBytes d bs m o
PutIn room d bs (Err e) o = (length d < room) × (e ≡ Room) × (o ≡ d)

-- o, which has taken m bytes, takes cs as well, and is then p, which has taken k
pub record Takes (m : ℕ) (o cs : List ℕ) (k : ℕ) (p : List ℕ) : Type 0 where
  pub count : k ≡ m + length cs
  pub grows : (d bs : List ℕ) → TookBytes d bs m o → TookBytes d (bs ++ cs) k p
