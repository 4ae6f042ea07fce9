-- A lock can be opened, each call has an answer and each list of calls a run, over a memory that does what it does not refuse.
use Rattle.std.proofs.Common.{◌≡◌, ℕ, ◌≤◌, true, false, List, [], ◌∷◌, length, get_or, set, Some, None, Option, refl, sym, ap, ◌∙◌, subst, arith, rules}
use Rattle.std.specs.Prelude.{MatchBool}
use Rattle.std.proofs.lemmas.Bool.Decides.{nat_tests}
use Rattle.std.proofs.lemmas.List.{length-set}
use Rattle.sets.specs.Sets.{holds, joined}
use Rattle.memory.specs.declared.interface.Memory.{Ghosts}
use Rattle.memory.specs.declared.operation.Operation.{Operation}
use Rattle.memory.specs.declared.operation.Operation.TheVariants.{Read}
use Rattle.memory.specs.declared.refusal.Refusal.{Refusal as MemoryRefusal}
use Rattle.memory.specs.Calls.{Kept}
use Rattle.memory.specs.Operations.{after, cell_of, refusal}
use Rattle.memory.proofs.Unrefused.{OneSet, one_set}
use Rattle.cache.specs.declared.layer.Cache.{Cache}
use Rattle.cache.specs.Held.{cached_kept}
use Rattle.cache.specs.Layers.{cached}
use Rattle.packed.specs.declared.word.Packed.{Packed}
use Rattle.packed.specs.Fields.{fields}
use Rattle.packed.specs.Small.{fields_small}
use Rattle.packed.proofs.Takes.{packed_takes}
use Rattle.words.specs.declared.array.Words.{Words}
use Rattle.words.proofs.Takes.{new_words, words_take}
use Rattle.lines.specs.declared.deed.Deed.{Deed}
use Rattle.lines.specs.declared.deed.Deed.TheVariants.{Touch}
use Rattle.lines.specs.Deeds.{cells_after}
use Rattle.lines.specs.Lines.{next_deed}
use Rattle.calls.specs.declared.record.Record.{Record}
use Rattle.calls.specs.declared.refusal.Refusal.{Refusal}
use Rattle.calls.specs.Opening.{Wrote, open_refusal, opened_to, opening_writes}
use Rattle.calls.specs.States.{State}
use Rattle.calls.specs.Steps.{Answer, Call, Calls, Carried, LineShares, Shares, Verdict, after_deed, asked, at_once, begin, by_memory, deed_refusal, done, judge, line, lined, no, refuse}
use Rattle.lock.specs.Answering.{Answering, EachAnswers, EachOpens, EachRuns, Total}
use Rattle.lock.proofs.Opened.{opened_cells}

-- what goes up as no refusal was none below
not_refused : (o : Option MemoryRefusal) → by_memory o ≡ None → o ≡ None
not_refused None h = refl
not_refused (Some e) h = cc

module _ {M : Type 0} (mem : Ghosts M) (total : Total mem) where
  some_share : (d : Deed) (t : ℕ) (s : State) (m : M) → s.cells ≡ mem.cells m → deed_refusal mem.limit t d s.cells s.waiting ≡ None → (share : ℕ) × (n : M) × Shares mem.does m t d share n
  some_share (Touch op) t s m is free = total m t op (subst (λ cs. refusal mem.limit t op cs ≡ None) is (not_refused (refusal mem.limit t op s.cells) free))
  some_share d t s m is free = (0, m, (refl, refl))

  line_answers : (o : Option Refusal) (t : ℕ) (r : Record) (s : State) (m : M) → s.cells ≡ mem.cells m → deed_refusal mem.limit t (next_deed t r.track) s.cells s.waiting ≡ o → (a : Answer) × (z : State) × (n : M) × Carried mem.does mem.limit (line t r) s m a z n
  line_answers None t r s m is free =
      let (share, n, d) = some_share (next_deed t r.track) t s m is free in
      (done, after_deed t r (next_deed t r.track) share s, n, (share, rw free d, rw free refl, rw free refl))
  line_answers (Some e) t r s m is why = (no e, s, m, (0, rw why (refl, refl), rw why refl, rw why refl))

  answers : (v : Verdict) (s : State) (m : M) → s.cells ≡ mem.cells m → (a : Answer) × (z : State) × (n : M) × Carried mem.does mem.limit v s m a z n
  answers (refuse e) s m is = (no e, s, m, (0, (refl, refl), refl, refl))
  answers (line t r) s m is = line_answers _ t r s m is refl
  answers (at_once a z) s m is = (a, z, m, (0, (refl, refl), refl, refl))

  pub each_answers : EachAnswers mem
  each_answers c s m is = answers (judge c s) s m is

-- What the call and the opening leave: the cells of the state are those of the memory.

-- an answer at once leaves the cells
abbrev CellsStay : State → Verdict → Type 0
CellsStay s (at_once a z) = z.cells ≡ s.cells
CellsStay s v = Unit {0}

asked_stay : (s : State) (o : Option Refusal) (v : Verdict) → CellsStay s v → CellsStay s (asked o v)
asked_stay s None v h = h
asked_stay s (Some e) v h = tt

judged_stay : (c : Call) (s : State) → CellsStay s (judge c s)
judged_stay (begin t) s = search (rules, asked_stay)
judged_stay c s = search (rules, asked_stay)

-- what every memory keeps
abbrev pub EachKept : {M : Type 0} → Ghosts M → Type 0
EachKept {M} mem = (s t : M) (task : ℕ) (op : Operation) (share : ℕ) → mem.does s task op share t → Kept mem.cells mem.top s op share t

module _ {M : Type 0} (mem : Ghosts M) (law : EachKept mem) where
  deed_cells : (d : Deed) (t : ℕ) (cs : List ℕ) (m n : M) (share : ℕ) → cs ≡ mem.cells m → Shares mem.does m t d share n → cells_after d cs ≡ mem.cells n
  deed_cells (Touch op) t cs m n share is d = ap (after op) is ∙ sym (law m n t op share d).0
  deed_cells d t cs m n share is told = is ∙ ap mem.cells (sym told.1)

  line_cells : (o : Option Refusal) (t : ℕ) (r : Record) (d : Deed) (s : State) (m n : M) (share : ℕ) → s.cells ≡ mem.cells m → LineShares mem.does o m t d share n → (lined o t r d share s).1.cells ≡ mem.cells n
  line_cells None t r d s m n share is told = deed_cells d t s.cells m n share is told
  line_cells (Some e) t r d s m n share is told = is ∙ ap mem.cells (sym told.1)

  carried_cells : (v : Verdict) (s z : State) (m n : M) (a : Answer) → CellsStay s v → s.cells ≡ mem.cells m → Carried mem.does mem.limit v s m a z n → z.cells ≡ mem.cells n
  carried_cells (refuse e) s z m n a stay is (share, told, x, y) = ap (λ (w : State). w.cells) y ∙ is ∙ ap mem.cells (sym told.1)
  carried_cells (line t r) s z m n a stay is (share, told, x, y) = ap (λ (w : State). w.cells) y ∙ line_cells (deed_refusal mem.limit t (next_deed t r.track) s.cells s.waiting) t r (next_deed t r.track) s m n share is told
  carried_cells (at_once b w) s z m n a stay is (share, told, x, y) = ap (λ (w : State). w.cells) y ∙ stay ∙ is ∙ ap mem.cells (sym told.1)

  pub call_cells : (c : Call) (s z : State) (m n : M) (a : Answer) → s.cells ≡ mem.cells m → Calls mem.does mem.limit c s m a z n → z.cells ≡ mem.cells n
  call_cells c s z m n a is call = carried_cells (judge c s) s z m n a (judged_stay c s) is call

-- The list of calls, and the opening.

-- operations of task 1 that are not refused, whatever the cells
abbrev Free : ℕ → List Operation → Type 0
Free limit [] = Unit {0}
Free limit (op ∷ ops) = ((xs : List ℕ) → refusal limit 1 op xs ≡ None) × Free limit ops

-- opening asks that the limit is at least 2
opening_free : (limit ceiling : ℕ) (s : State) (roles : List ℕ) → open_refusal limit ceiling s roles ≡ None → Free limit opening_writes
opening_free limit ceiling s roles none = grind (arith, nat_tests)

module _ {M : Type 0} (mem : Ghosts M) (total : Total mem) (law : EachKept mem) where
  pub each_runs : EachRuns mem
  each_runs [] s m is = ([], refl, s, m, (tt, refl, refl))
  each_runs (c ∷ cs) s m is =
      let (a, y, k, call) = each_answers mem total c s m is in
      let (es, same, z, n, run) = each_runs cs y k (call_cells mem law c s y m k a is call) in
      (record { call = c; answer = a } ∷ es, ap (λ ds. c ∷ ds) same, z, n, (tt, (y, k, call, run)))

  wrote : (ops : List Operation) (m : M) → Free mem.limit ops → (n : M) × Wrote mem.does m ops n
  wrote [] m free = (m, refl)
  wrote (op ∷ ops) m free =
      let (share, k, d) = total m 1 op (free.0 (mem.cells m)) in
      let (n, w) = wrote ops k free.1 in
      (n, (k, share, d, w))

  pub each_opens : ((m : M) → length (mem.cells m) ≡ 7) → EachOpens mem
  each_opens seven s m roles is none =
      let (n, w) = wrote opening_writes m (opening_free mem.limit (mem.top m) s roles none) in
      let cells = opened_cells mem.cells mem.top mem.does law m n (seven m) w in
      (opened_to roles s, n, (refl, w, refl), λ cs. each_runs cs (opened_to roles s) n (sym cells))

  pub answering : ((m : M) → length (mem.cells m) ≡ 7) → Answering mem
  answering seven = record { opens = each_opens seven; answers = each_answers mem total; runs = each_runs }

-- The cache layer.

abbrev pub with_masks : {B : Type 0} → B → (masks : List ℕ) → length masks ≡ 7 → Cache B
with_masks b masks seven = record { below = b; copies = record { masks = masks; seven = seven } }

pub cached_total : {B : Type 0} (mem : Ghosts B) → Total mem → Total (cached mem)
cached_total {B} mem total m t (Read c) free =
    let held = get_or m.copies.masks c 0 in
    (elim (holds held t) as (λ v. (share : ℕ) × (n : Cache B) × MatchBool v ((share ≡ 0) × (n.below ≡ m.below) × (n.copies.masks ≡ m.copies.masks)) (mem.does m.below t (Read c) share n.below × (n.copies.masks ≡ set m.copies.masks c (joined held t)))) [
      | true ↦ (0, m, (refl, refl, refl))
      | false ↦ let (share, n, d) = total m.below t (Read c) free in (share, with_masks n (set m.copies.masks c (joined held t)) (length-set m.copies.masks c _ ∙ m.copies.seven), (d, refl))
    ])
cached_total mem total m t op free =
    let (share, n, d) = total m.below t op free in
    (share, with_masks n (set m.copies.masks (cell_of op) 0) (length-set m.copies.masks (cell_of op) 0 ∙ m.copies.seven), (d, refl))

pub cached_law : {B : Type 0} (mem : Ghosts B) → EachKept mem → EachKept (cached mem)
cached_law mem law s t task op share d = cached_kept mem.cells mem.top mem.does law s.below t.below s.copies.masks t.copies.masks task op share d

-- Words and Packed: stores of seven numbers.

-- a store as a memory, each operation at a share of 1
abbrev pub stored : {S : Type 0} → ℕ → (S → List ℕ) → Ghosts S
stored limit numbers = record { LIMIT = limit; limit = limit; cells = numbers; top = λ s. 1; does = λ s t op share n. (numbers n ≡ after op (numbers s)) × (share ≡ 1) }

-- what is known of such a store: there is one, it takes what one operation makes of its numbers, and 15 fits
pub record Store {S : Type 0} (limit : ℕ) (numbers : S → List ℕ) : Type 0 where
  pub some : S
  pub seven : (s : S) → length (numbers s) ≡ 7
  pub within : (s : S) (k : ℕ) → get_or (numbers s) k 0 ≤ limit
  pub takes : (s : S) (ys : List ℕ) → OneSet limit (numbers s) ys → (n : S) × (numbers n ≡ ys)
  pub large : 15 ≤ limit

pub over_words : Store 4294967295 (λ (w : Words). w.numbers)
over_words = record { some = new_words; seven = λ w. w.seven; within = λ w. w.small; takes = words_take; large = omega arith }

pub over_packed : Store 15 (λ (p : Packed). fields p.bits)
over_packed = record { some = record { bits = 0 }; seven = λ p. refl; within = λ p. fields_small p.bits; takes = packed_takes; large = omega arith }

module _ {S : Type 0} {limit : ℕ} {numbers : S → List ℕ} (u : Store limit numbers) where
  pub stored_total : Total (stored limit numbers)
  stored_total s t op free = let (n, is) = u.takes s _ (one_set limit t op (numbers s) (u.within s) free) in (1, n, (is, refl))

  pub stored_law : EachKept (stored limit numbers)
  stored_law s n t op share d = (d.0, omega (arith, d.1), refl)

  pub stored_answers : Answering (stored limit numbers) × Answering (cached (stored limit numbers))
  stored_answers =
      let mem = stored limit numbers in
      (answering mem stored_total stored_law u.seven, answering (cached mem) (cached_total mem stored_total) (cached_law mem stored_law) (λ s. u.seven s.below))
