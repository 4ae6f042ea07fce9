-- Every line keeps the facts.
use Rattle.std.proofs.Common.{◌≡◌, ℕ, suc, ◌+◌, ◌≤◌, ◌≢◌, List, [], ◌∷◌, get_or, inl, inr, arith}
use Rattle.std.proofs.lemmas.Bool.{cases_eq, cases_lt, eq-eqb, ne_eqb, lt-ltb, le-ltb}
use Rattle.lines.specs.declared.deed.Deed.{Deed}
use Rattle.lines.specs.declared.place.Line.{Line}
use Rattle.lines.specs.declared.place.Line.TheVariants.{L0p1, L0p2, L6, L10, L11, L12, L13, L14, L16p1, L19, L20, L21, L22, L22p1, L22p2, L27p1, L27p3, L27p5, L32p1}
use Rattle.lines.specs.declared.place.Place.{Place}
use Rattle.lines.specs.declared.place.Role.{Role}
use Rattle.lines.specs.declared.place.Standing.{Standing}
use Rattle.lines.specs.declared.track.Track.{Track}
use Rattle.lines.specs.Deeds.{cells_after, finds, waiting_after}
use Rattle.lines.specs.Lines.{deed_of, settle}
use Rattle.lock.proofs.Facts.{Before, Keeps, OneTask, seen, seen_cells, two}

module _ (C D G X P U V i prev curr d x : ℕ) (p : Place) (s : Standing) where
  abbrev cells : List ℕ
  cells = C ∷ D ∷ G ∷ X ∷ P ∷ U ∷ V ∷ []

  abbrev track : Role → Track
  track o = record { role = o; place = p; standing = s; prev = prev; curr = curr; d = d; x = x }

  abbrev deed : Line → Role → Deed
  deed l o = deed_of l (suc i) (track o)

  -- The task at place i does the line l. Where it is counted, it is among those of C; where it is counted and U is not 2 for it, it
  -- is counted beside the task for which U is 2; and it does not wait twice.
  abbrev pub Kept : Line → Role → List ℕ → Type 0
  Kept l o ws =
      Before l (seen i (track o)) → (seen i (track o)).counted ≤ C → ((seen i (track o)).upgraded ≡ 0 → (seen i (track o)).counted ≡ 1 → two U + 1 ≤ C) → (get_or ws 0 0 ≡ suc i → get_or ws 1 0 ≢ suc i) → OneTask (seen_cells cells ws) (seen i (track o)) →
      Keeps (deed l o) (seen_cells cells ws) (seen i (track o)) (seen_cells (cells_after (deed l o) cells) (waiting_after (deed l o) (suc i) ws)) (seen i (settle l (track o) (finds (deed l o) (suc i) cells ws)))

  -- three lines by themselves, at which the proof stops where a lock of examples/unsound does them wrong
  keeps_line_14 : (o : Role) (ws : List ℕ) → Kept L14 o ws
  keeps_line_14 o ws f n h v m = elim (cases_eq X (suc i)) [ inl same ↦ rw (eq-eqb X (suc i) same) (grind arith) | inr other ↦ rw (ne_eqb X (suc i) other) (grind arith) ]

  keeps_line_16p1 : (o : Role) (ws : List ℕ) → Kept L16p1 o ws
  keeps_line_16p1 o ws f n h v m = elim (cases_eq U 1) [ inl same ↦ rw (eq-eqb U 1 same) (grind arith) | inr other ↦ rw (ne_eqb U 1 other) (grind arith) ]

  keeps_line_27p3 : (o : Role) (ws : List ℕ) → Kept L27p3 o ws
  keeps_line_27p3 o ws f n h v m = elim (cases_lt 1 C) [ inl more ↦ rw (lt-ltb 1 C more) (grind arith) | inr few ↦ rw (le-ltb 1 C few) (grind arith) ]

  pub kept : (l : Line) (o : Role) (ws : List ℕ) → Kept l o ws
  kept L0p1 o [] f n h v m = grind arith
  kept L0p1 o (y ∷ ys) f n h v m = grind arith
  kept L0p2 o [] f n h v m = grind arith
  kept L0p2 o (y ∷ ys) f n h v m = elim (cases_eq y (suc i)) [ inl same ↦ rw (eq-eqb y (suc i) same) (grind arith) | inr other ↦ rw (ne_eqb y (suc i) other) (grind arith) ]
  kept L6 o ws f n h v m = elim (cases_eq P 1) [ inl same ↦ rw (eq-eqb P 1 same) (grind arith) | inr other ↦ rw (ne_eqb P 1 other) (grind arith) ]
  kept L10 o ws f n h v m = elim (cases_eq x 0) [ inl same ↦ rw (eq-eqb x 0 same) (grind arith) | inr other ↦ rw (ne_eqb x 0 other) (grind arith) ]
  kept L11 o ws f n h v m = elim (cases_eq X x) [ inl same ↦ rw (eq-eqb X x same) (grind arith) | inr other ↦ rw (ne_eqb X x other) (grind arith) ]
  kept L12 o ws f n h v m = elim (cases_eq P 1) [ inl same ↦ rw (eq-eqb P 1 same) (grind arith) | inr other ↦ rw (ne_eqb P 1 other) (grind arith) ]
  kept L13 o ws f n h v m = elim (cases_eq C 0) [ inl same ↦ rw (eq-eqb C 0 same) (grind arith) | inr other ↦ rw (ne_eqb C 0 other) (grind arith) ]
  kept L14 o ws f n h v m = keeps_line_14 o ws f n h v m
  kept L16p1 o ws f n h v m = keeps_line_16p1 o ws f n h v m
  kept L19 o ws f n h v m = elim (cases_eq x 0) [ inl same ↦ rw (eq-eqb x 0 same) (grind arith) | inr other ↦ rw (ne_eqb x 0 other) (grind arith) ]
  kept L20 o ws f n h v m = elim (cases_eq X x) [ inl same ↦ rw (eq-eqb X x same) (grind arith) | inr other ↦ rw (ne_eqb X x other) (grind arith) ]
  kept L21 o ws f n h v m = elim (cases_eq X 0) [ inl same ↦ rw (eq-eqb X 0 same) (grind arith) | inr other ↦ rw (ne_eqb X 0 other) (grind arith) ]
  kept L22 o ws f n h v m = elim (cases_eq G d) [ inl same ↦ rw (eq-eqb G d same) (grind arith) | inr other ↦ rw (ne_eqb G d other) (grind arith) ]
  kept L22p1 o ws f n h v m = elim (cases_eq U 2) [ inl same ↦ rw (eq-eqb U 2 same) (grind arith) | inr other ↦ rw (ne_eqb U 2 other) (grind arith) ]
  kept L22p2 o ws f n h v m = elim (cases_eq V 0) [ inl same ↦ rw (eq-eqb V 0 same) (grind arith) | inr other ↦ rw (ne_eqb V 0 other) (grind arith) ]
  kept L27p1 o ws f n h v m = elim (cases_lt 1 C) [ inl more ↦ rw (lt-ltb 1 C more) (grind arith) | inr few ↦ rw (le-ltb 1 C few) (grind arith) ]
  kept L27p3 o ws f n h v m = keeps_line_27p3 o ws f n h v m
  kept L27p5 o ws f n h v m = elim (cases_eq U 1) [ inl same ↦ rw (eq-eqb U 1 same) (grind arith) | inr other ↦ rw (ne_eqb U 1 other) (grind arith) ]
  kept L32p1 o [] f n h v m = grind arith
  kept L32p1 o (y ∷ []) f n h v m = grind arith
  kept L32p1 o (y ∷ z ∷ zs) f n h v m = grind arith
  kept l o ws f n h v m = grind arith
