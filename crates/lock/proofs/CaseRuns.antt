-- A case is shown by computing. The calls have a run, which comes to what the one function says, and that is the same at the limit 15
-- as at a larger one where the memory refused no call.
use Rattle.std.proofs.Common.{◌≡◌, ℕ, suc, ◌+◌, ◌≤◌, Bool, true, false, leb, List, [], ◌∷◌, map, length, set, Some, None, Ok, Option, Result, sym, refl, ap, ◌∙◌, subst, inr, arith}
use Rattle.std.specs.List.{list_all}
use Rattle.std.proofs.lemmas.Bool.Decides.{nat_tests}
use Rattle.std.proofs.lemmas.Bool.{and_parts, leb-true}
use Rattle.memory.specs.declared.interface.Memory.{Ghosts}
use Rattle.memory.specs.declared.refusal.Refusal.{Refusal as MemoryRefusal}
use Rattle.memory.specs.Cells.{zeros}
use Rattle.memory.specs.Operations.{refusal}
use Rattle.memory.proofs.Unrefused.{wider}
use Rattle.cache.specs.declared.layer.Cache.{Cache}
use Rattle.cache.specs.Layers.{cached}
use Rattle.lines.specs.declared.deed.Deed.{Deed}
use Rattle.lines.specs.declared.deed.Deed.TheVariants.{Touch}
use Rattle.lines.specs.Lines.{next_deed}
use Rattle.calls.specs.declared.record.Record.{Record}
use Rattle.calls.specs.declared.refusal.Refusal.{Refusal}
use Rattle.calls.specs.declared.refusal.Refusal.TheVariants.{Memory}
use Rattle.calls.specs.Opening.{Opens, open_refusal, opened_to}
use Rattle.calls.specs.States.{State}
use Rattle.calls.specs.Steps.{Answer, Call, Verdict, by_memory, deed_refusal, judge, line, no}
use Rattle.lock.specs.Answering.{HasRun, Total}
use Rattle.lock.specs.Cases.{Comes, ComesFrom, closed}
use Rattle.lock.specs.Counted.{CostsOne, Counted}
use Rattle.lock.specs.Exact.{exact, exact_line, exact_run, exact_verdict, made_then, seen_at}
use Rattle.lock.specs.Runs.{Made, Run}
use Rattle.lock.proofs.Answering.{EachKept, Store, cached_law, cached_total, each_opens, each_runs, stored, stored_law, stored_total, with_masks}
use Rattle.lock.proofs.Exactly.{opened_exactly, runs_exactly}
use Rattle.lock.proofs.Opened.{seven_of}

-- whether no memory refused the call that was answered so
abbrev unrefused : Answer → Bool
unrefused (no (Memory e)) = false
unrefused a = true

abbrev pub all_unrefused : List Made → Bool
all_unrefused es = list_all (λ (e : Made). unrefused e.answer) es

-- What comes to something at the limit 15 with no refusal of the memory comes to the same at a larger limit.
module _ (limit : ℕ) (large : 15 ≤ limit) where
  wider_line : (t : ℕ) (r : Record) (d : Deed) (x : Counted) → unrefused (exact_line (deed_refusal 15 t d x.state.cells x.state.waiting) t r d x).0 ≡ true →
      exact_line (deed_refusal limit t d x.state.cells x.state.waiting) t r d x ≡ exact_line (deed_refusal 15 t d x.state.cells x.state.waiting) t r d x
  wider_line t r (Touch op) x free =
      let none = not_refused (refusal 15 t op x.state.cells) free in
      ap (λ o. exact_line (by_memory o) t r (Touch op) x) (wider 15 limit t op x.state.cells large none ∙ sym none)
    where
      not_refused : (o : Option MemoryRefusal) → unrefused (exact_line (by_memory o) t r (Touch op) x).0 ≡ true → o ≡ None
      not_refused None h = refl
      not_refused (Some e) h = cc
  wider_line t r d x free = refl

  wider_verdict : (v : Verdict) (x : Counted) → unrefused (exact_verdict 15 v x).0 ≡ true → exact_verdict limit v x ≡ exact_verdict 15 v x
  wider_verdict (line t r) x free = wider_line t r (next_deed t r.track) x free
  wider_verdict v x free = refl

  wider_run : (cs : List Call) (x : Counted) → all_unrefused (exact_run 15 cs x).0 ≡ true → exact_run limit cs x ≡ exact_run 15 cs x
  wider_run [] x free = refl
  wider_run (c ∷ cs) x free =
      let next = exact 15 c x in
      let both = and_parts (unrefused next.0) (all_unrefused (exact_run 15 cs next.1).0) free in
      ap (λ (r : Answer × Counted). made_then c r.0 (exact_run limit cs r.1)) (wider_verdict (judge c x.state) x both.0) ∙ ap (made_then c next.0) (wider_run cs next.1 both.1)

  wider_opening : (rows roles : List ℕ) → open_refusal 15 1 (closed rows) roles ≡ None → open_refusal limit 1 (closed rows) roles ≡ None
  wider_opening rows roles none = grind (arith, nat_tests)

-- numbers put into the places from k on
abbrev put_from : ℕ → List ℕ → List ℕ → List ℕ
put_from k [] ys = ys
put_from k (x ∷ xs) ys = put_from (suc k) xs (set ys k x)

abbrev pub calls_of : List Made → List Call
calls_of es = map (λ (e : Made). e.call) es

-- what calls with these answers come to at the limit 15, from a state with no copies
abbrev pub computed : State → List Made → List Made × Counted
computed s es = exact_run 15 (calls_of es) (record { state = s; masks = zeros })

module _ {S : Type 0} {limit : ℕ} {numbers : S → List ℕ} (u : Store limit numbers) where
  abbrev mem : Ghosts S
  mem = stored limit numbers

  abbrev layer : Ghosts (Cache S)
  layer = cached mem

  total : Total layer
  total = cached_total mem (stored_total u)

  law : EachKept layer
  law = cached_law mem (stored_law u)

  one : CostsOne mem.does
  one s t task op share d = d.1

  -- a store with these numbers from the place k on
  store_from : (xs : List ℕ) (k : ℕ) (s : S) → k + length xs ≤ 7 → list_all (λ n. leb n 15) xs ≡ true → (n : S) × (numbers n ≡ put_from k xs (numbers s))
  store_from [] k s room small = (s, refl)
  store_from (x ∷ xs) k s room small =
      let both = and_parts (leb x 15) (list_all (λ n. leb n 15) xs) small in
      let (m, is) = u.takes s (set (numbers s) k x) (inr (k, x, omega arith, omega (arith, leb-true x 15 both.0, u.large), refl)) in
      let (n, are) = store_from xs (suc k) m (omega arith) both.1 in
      (n, are ∙ ap (put_from (suc k) xs) is)

  store_of : (xs : List ℕ) → length xs ≡ 7 → list_all (λ n. leb n 15) xs ≡ true → (n : S) × (numbers n ≡ xs)
  store_of xs seven small =
      let (n, are) = store_from xs 0 u.some (omega (arith, seven)) small in
      (n, are ∙ (λ i. put_from 0 (seven_of xs seven i) (seven_of (numbers u.some) (u.seven u.some) i)) ∙ sym (seven_of xs seven))

  -- a memory over the store, with no copies
  abbrev uncopied : S → Cache S
  uncopied n = with_masks n zeros refl

  -- calls whose answers are computed are a run
  computed_run : (s z : State) (m : Cache S) (es : List Made) → HasRun layer (calls_of es) z m → ◌≡◌ {A = Counted} (seen_at z m) (record { state = s; masks = zeros }) →
      all_unrefused es ≡ true → (computed s es).0 ≡ es → (n : Cache S) × Run layer.does limit es z m (computed s es).1.state n
  computed_run s z m es (ds, same, y, n, run) start free are =
      let cs = calls_of es in
      let x : Counted = record { state = s; masks = zeros } in
      let e : ◌≡◌ {A = List Made × Counted} (ds, seen_at y n) (es, (computed s es).1) =
      runs_exactly mem one ds z y m n run ∙ (λ i. exact_run limit (same i) (start i)) ∙ wider_run limit u.large cs x (ap all_unrefused are ∙ free) ∙ (λ i. (are i, (computed s es).1)) in
      (n, subst (λ (r : List Made × Counted). Run layer.does limit r.0 z m r.1.state n) e run)

  -- computed answers and a computed end make a case, from a state that is written down
  pub comes_from : {s : State} {es : List Made} {P : State → Type 0} →
      ◌≡◌ {A = ℕ × Bool × Bool × List Made} (length s.cells, list_all (λ n. leb n 15) s.cells, all_unrefused es, (computed s es).0) (7, true, true, es) →
      P (computed s es).1.state → ComesFrom mem s es P
  comes_from {s} {es} is holds =
      let (b, cells) = store_of s.cells (λ i. (is i).0) (λ i. (is i).1) in
      let (n, run) = computed_run s s (uncopied b) es (each_runs layer total law (calls_of es) s (uncopied b) (sym cells)) refl (λ i. (is i).2) (λ i. (is i).3) in
      record { memory = uncopied b; its_cells = cells; no_copies = refl; end = _; end_memory = n; run = run; holds = holds }

  -- and from a lock that is opened
  pub comes : {rows roles : List ℕ} {es : List Made} {P : State → Type 0} →
      ◌≡◌ {A = Option Refusal × Bool × List Made} (open_refusal 15 1 (closed rows) roles, all_unrefused es, (computed (opened_to roles (closed rows)) es).0) (None, true, es) →
      P (computed (opened_to roles (closed rows)) es).1.state → Comes mem rows roles es P
  comes {rows} {roles} {es} is holds =
      let (b, cells) = store_of zeros refl refl in
      let asked = wider_opening limit u.large rows roles (λ i. (is i).0) in
      let (z, k, opens, each) = each_opens layer total law (λ n. u.seven n.below) (closed rows) (uncopied b) roles (sym cells) asked in
      let start = ap (λ (r : Result (Unit {0}) Refusal × Counted). r.1) (opened_exactly mem one None (closed rows) z (uncopied b) k roles (Ok tt) opens) in
      let (n, run) = computed_run (opened_to roles (closed rows)) z k es (each (calls_of es)) start (λ i. (is i).1) (λ i. (is i).2) in
      record {
        memory = uncopied b;
        new_cells = cells;
        no_copies = refl;
        start = z;
        start_memory = k;
        opens = subst (λ o. Opens layer.does o (closed rows) (uncopied b) roles (Ok tt) z k) (sym asked) opens;
        end = _;
        end_memory = n;
        run = run;
        holds = holds;
      }
