-- What an attempt has cost at most, by the place of its task, and that every line keeps it.
--
-- The cost is counted in units: an access that leaves the cache is one, and a memory charges at most its ceiling for it.
use Rattle.std.proofs.Common.{◌≡◌, ℕ, suc, ◌+◌, ◌-◌, ◌*◌, ◌≤◌, cond, eqb, leb, ◌≢◌, List, [], ◌∷◌, get_or, refl, inl, inr, arith}
use Rattle.std.proofs.lemmas.Bool.{cases_eq, cases_lt, eq-eqb, ne_eqb, lt-ltb, le-ltb, leb-true}
use Rattle.memory.specs.declared.operation.Operation.TheVariants.{Read, Write, Add, Swap}
use Rattle.lines.specs.declared.deed.Deed.{Deed}
use Rattle.lines.specs.declared.deed.Deed.TheVariants.{Touch}
use Rattle.lines.specs.declared.place.Line.{Line}
use Rattle.lines.specs.declared.place.Line.TheVariants.{L0p1, L0p2, L6, L10, L11, L12, L13, L14, L16, L19, L21, L22, L22p1, L22p2, L25p1, L27p1, L27p3, L27p5, Down28p1}
use Rattle.lines.specs.declared.place.Place.{Place}
use Rattle.lines.specs.declared.place.Role.{Role}
use Rattle.lines.specs.declared.place.Role.TheVariants.{Reader, Writer}
use Rattle.lines.specs.declared.place.Standing.{Standing}
use Rattle.lines.specs.declared.track.Track.{Track}
use Rattle.lines.specs.Deeds.{cells_after, finds, waiting_after}
use Rattle.lines.specs.Lines.{deed_of, settle}
use Rattle.lock.proofs.Kept.{pass_at}
use Rattle.lock.proofs.Facts.{Before, Cells, Met, OneTask, Task, seen, seen_cells, writer}

-- the cost of the current or latest attempt in units, with its upgrades and downgrades
pub record Units : Type 0 where
  pub cost : ℕ
  pub u : ℕ
  pub g : ℕ

-- these, and 1 for each of Gate, Permit and V of which the task holds a copy
pub record Purse : Type 0 where
  pub cost : ℕ
  pub u : ℕ
  pub g : ℕ
  pub gate : ℕ
  pub permit : ℕ
  pub v : ℕ

-- copies tells by cell whether the task holds a copy, 1 or 0
abbrev pub purse : Units → (ℕ → ℕ) → Purse
purse a copies = record { cost = a.cost; u = a.u; g = a.g; gate = copies 2; permit = copies 4; v = copies 6 }

-- by the rank of the place from 0 on, for a reader and for a writer; they differ only on the lines of promote, 9 to 15
abbrev pub reader_costs : List ℕ
reader_costs = 20 ∷ 0 ∷ 0 ∷ 1 ∷ 1 ∷ 2 ∷ 9 ∷ 0 ∷ 0 ∷ 14 ∷ 15 ∷ 15 ∷ 16 ∷ 17 ∷ 18 ∷ 19 ∷ 1 ∷ 2 ∷ 3 ∷ 4 ∷ 4 ∷ 5 ∷ 7 ∷ 8 ∷ 10 ∷ 13 ∷ 12 ∷ 10 ∷ 11 ∷ 10 ∷ 9 ∷ 8 ∷ 7 ∷ 11 ∷ 11 ∷ 10 ∷ 9 ∷ 10 ∷ 11 ∷ 20 ∷ []

abbrev pub writer_costs : List ℕ
writer_costs = 20 ∷ 0 ∷ 0 ∷ 1 ∷ 1 ∷ 2 ∷ 9 ∷ 0 ∷ 0 ∷ 3 ∷ 4 ∷ 4 ∷ 5 ∷ 6 ∷ 7 ∷ 8 ∷ 1 ∷ 2 ∷ 3 ∷ 4 ∷ 4 ∷ 5 ∷ 7 ∷ 8 ∷ 10 ∷ 13 ∷ 12 ∷ 10 ∷ 11 ∷ 10 ∷ 9 ∷ 8 ∷ 7 ∷ 11 ∷ 11 ∷ 10 ∷ 9 ∷ 10 ∷ 11 ∷ 20 ∷ []

-- the cost beside 5 for each upgrade and 2 for each downgrade; the role is 1 for a writer, as in Task
abbrev pub at_most : (role rank : ℕ) → ℕ
at_most role rank = get_or (get_or (reader_costs ∷ writer_costs ∷ []) role []) rank 0

-- no place allows more than 20
pub at_most_20 : (o : Role) (rank : ℕ) → at_most (writer o) rank ≤ 20
at_most_20 Reader rank = leb-true _ 20 (pass_at (λ n. leb n 20) reader_costs rank 0 refl refl)
at_most_20 Writer rank = leb-true _ 20 (pass_at (λ n. leb n 20) writer_costs rank 0 refl refl)

-- What a task has paid at most. On a wait line, while the wait holds, a task without a copy is below the bound of its place:
-- its next read is paid and leaves a copy, with which it waits for nothing.
pub record Paid (c : Cells) (a : Task) (m : Purse) : Type 0 where
  pub bound : m.cost ≤ 5 * m.u + 2 * m.g + at_most a.writer a.rank
  pub line_6 : a.rank ≡ 6 → m.permit ≡ 0 → c.Permit ≡ 0 → m.cost ≤ 5 * m.u + 2 * m.g + 8
  pub line_22 : a.rank ≡ 22 → m.gate ≡ 0 → c.Gate ≢ a.d → m.cost ≤ 5 * m.u + 2 * m.g + 6
  pub line_22p2 : a.rank ≡ 24 → m.v ≡ 0 → c.V ≡ 1 → m.cost ≤ 5 * m.u + 2 * m.g + 9

-- the units that a deed costs a task with these copies
abbrev pub charge : Deed → (ℕ → ℕ) → ℕ
charge (Touch (Read c)) copies = 1 - copies c
charge (Touch op) copies = 1
charge d copies = 0

-- the copies of the task after its own deed
abbrev pub own_copies : Deed → (ℕ → ℕ) → ℕ → ℕ
own_copies (Touch (Read c)) copies k = cond (eqb c k) 1 (copies k)
own_copies (Touch (Write c n)) copies k = cond (eqb c k) 0 (copies k)
own_copies (Touch (Add c s)) copies k = cond (eqb c k) 0 (copies k)
own_copies (Touch (Swap c e n)) copies k = cond (eqb c k) 0 (copies k)
own_copies d copies k = copies k

-- the copies of any other task after that deed
abbrev pub other_copies : Deed → (ℕ → ℕ) → ℕ → ℕ
other_copies (Touch (Write c n)) copies k = cond (eqb c k) 0 (copies k)
other_copies (Touch (Add c s)) copies k = cond (eqb c k) 0 (copies k)
other_copies (Touch (Swap c e n)) copies k = cond (eqb c k) 0 (copies k)
other_copies d copies k = copies k

-- what the call that does the line makes of the account before it: begin resets it, upgrade and downgrade count
abbrev pub account_before : Line → Units → Units
account_before L0p1 a = record { cost = 0; u = 0; g = 0 }
account_before L16 a = record { cost = 0; u = 0; g = 0 }
account_before L25p1 a = record { cost = a.cost; u = a.u; g = a.g + 1 }
account_before L27p1 a = record { cost = a.cost; u = a.u + 1; g = a.g }
account_before Down28p1 a = record { cost = a.cost; u = a.u; g = a.g + 1 }
account_before l a = a

-- a line adds its charge
abbrev pub charged : Units → ℕ → Units
charged a n = record { cost = a.cost + n; u = a.u; g = a.g }

module _ (C D G X P U V i prev curr d x : ℕ) (p : Place) (s : Standing) (account : Units) (copies : ℕ → ℕ) where
  abbrev cells : List ℕ
  cells = C ∷ D ∷ G ∷ X ∷ P ∷ U ∷ V ∷ []

  abbrev track : Role → Track
  track o = record { role = o; place = p; standing = s; prev = prev; curr = curr; d = d; x = x }

  abbrev deed : Line → Role → Deed
  deed l o = deed_of l (suc i) (track o)

  abbrev next : Line → Role → List ℕ → Cells
  next l o ws = seen_cells (cells_after (deed l o) cells) (waiting_after (deed l o) (suc i) ws)

  -- the task at place i, with this account before the call and these copies, does the line l
  abbrev pub PayerKept : Line → Role → List ℕ → Type 0
  PayerKept l o ws =
      Before l (seen i (track o)) → OneTask (seen_cells cells ws) (seen i (track o)) → Paid (seen_cells cells ws) (seen i (track o)) (purse account copies) →
      Paid (next l o ws) (seen i (settle l (track o) (finds (deed l o) (suc i) cells ws))) (purse (charged (account_before l account) (charge (deed l o) copies)) (own_copies (deed l o) copies))

  -- and any other task b, with its own account and copies, meets it
  abbrev pub OthersKept : Line → Role → List ℕ → Type 0
  OthersKept l o ws =
      Before l (seen i (track o)) → OneTask (seen_cells cells ws) (seen i (track o)) → (b : Task) (theirs : Units) (held : ℕ → ℕ) → Met (seen_cells cells ws) (next l o ws) (seen i (track o)) b → Paid (seen_cells cells ws) b (purse theirs held) →
      Paid (next l o ws) b (purse theirs (other_copies (deed l o) held))

  pub payer_kept : (l : Line) (o : Role) (ws : List ℕ) → PayerKept l o ws
  payer_kept L0p2 o [] f m k = grind arith
  payer_kept L0p2 o (y ∷ ys) f m k = elim (cases_eq y (suc i)) [ inl same ↦ rw (eq-eqb y (suc i) same) (grind arith) | inr other ↦ rw (ne_eqb y (suc i) other) (grind arith) ]
  payer_kept L6 o ws f m k = elim (cases_eq P 1) [ inl same ↦ rw (eq-eqb P 1 same) (grind arith) | inr other ↦ rw (ne_eqb P 1 other) (grind arith) ]
  payer_kept L10 o ws f m k = elim (cases_eq x 0) [ inl same ↦ rw (eq-eqb x 0 same) (grind arith) | inr other ↦ rw (ne_eqb x 0 other) (grind arith) ]
  payer_kept L11 o ws f m k = elim (cases_eq X x) [ inl same ↦ rw (eq-eqb X x same) (grind arith) | inr other ↦ rw (ne_eqb X x other) (grind arith) ]
  payer_kept L12 o ws f m k = elim (cases_eq P 1) [ inl same ↦ rw (eq-eqb P 1 same) (grind arith) | inr other ↦ rw (ne_eqb P 1 other) (grind arith) ]
  payer_kept L13 o ws f m k = elim (cases_eq C 0) [ inl same ↦ rw (eq-eqb C 0 same) (grind arith) | inr other ↦ rw (ne_eqb C 0 other) (grind arith) ]
  payer_kept L14 o ws f m k = elim (cases_eq X (suc i)) [ inl same ↦ rw (eq-eqb X (suc i) same) (grind arith) | inr other ↦ rw (ne_eqb X (suc i) other) (grind arith) ]
  payer_kept L19 o ws f m k = elim (cases_eq x 0) [ inl same ↦ rw (eq-eqb x 0 same) (grind arith) | inr other ↦ rw (ne_eqb x 0 other) (grind arith) ]
  payer_kept L21 o ws f m k = elim (cases_eq X 0) [ inl same ↦ rw (eq-eqb X 0 same) (grind arith) | inr other ↦ rw (ne_eqb X 0 other) (grind arith) ]
  payer_kept L22 o ws f m k = elim (cases_eq G d) [ inl same ↦ rw (eq-eqb G d same) (grind arith) | inr other ↦ rw (ne_eqb G d other) (grind arith) ]
  payer_kept L22p1 o ws f m k = elim (cases_eq U 2) [ inl same ↦ rw (eq-eqb U 2 same) (grind arith) | inr other ↦ rw (ne_eqb U 2 other) (grind arith) ]
  payer_kept L22p2 o ws f m k = elim (cases_eq V 0) [ inl same ↦ rw (eq-eqb V 0 same) (grind arith) | inr other ↦ rw (ne_eqb V 0 other) (grind arith) ]
  payer_kept L27p1 o ws f m k = elim (cases_lt 1 C) [ inl more ↦ rw (lt-ltb 1 C more) (grind arith) | inr few ↦ rw (le-ltb 1 C few) (grind arith) ]
  payer_kept L27p3 o ws f m k = elim (cases_lt 1 C) [ inl more ↦ rw (lt-ltb 1 C more) (grind arith) | inr few ↦ rw (le-ltb 1 C few) (grind arith) ]
  payer_kept L27p5 o ws f m k = elim (cases_eq U 1) [ inl same ↦ rw (eq-eqb U 1 same) (grind arith) | inr other ↦ rw (ne_eqb U 1 other) (grind arith) ]
  payer_kept l o ws f m k = grind arith

  pub others_kept : (l : Line) (o : Role) (ws : List ℕ) → OthersKept l o ws
  others_kept l o ws f m b theirs held t k = grind arith
