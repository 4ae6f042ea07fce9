-- Over the cache layer, where each operation below costs 1, calls come to what the one function says, from every state.
use Rattle.std.proofs.Common.{◌≡◌, ℕ, List, [], ◌∷◌, map, Some, None, Option, Result, ap, ◌∙◌}
use Rattle.cache.specs.declared.layer.Cache.{Cache}
use Rattle.cache.specs.Layers.{cached}
use Rattle.memory.specs.declared.interface.Memory.{Ghosts as MemoryGhosts}
use Rattle.memory.specs.declared.operation.Operation.{Operation}
use Rattle.queue.specs.declared.interface.Queue.{Ghosts as QueueGhosts}
use Rattle.lines.specs.declared.deed.Deed.{Deed}
use Rattle.lines.specs.declared.deed.Deed.TheVariants.{Touch}
use Rattle.lines.specs.Lines.{next_deed}
use Rattle.calls.specs.declared.record.Record.{Record}
use Rattle.calls.specs.declared.refusal.Refusal.{Refusal}
use Rattle.calls.specs.Opening.{Opens, open_refusal}
use Rattle.calls.specs.States.{State}
use Rattle.calls.specs.Steps.{Answer, Call, Carried, LineShares, Verdict, after_deed, deed_refusal, done, judge, line, lined, no}
use Rattle.lock.specs.declared.locks.Lock.{Lock}
use Rattle.lock.specs.ByTask.{Follows, Plan, ends, makes}
use Rattle.lock.specs.Counted.{CostsOne, Counted}
use Rattle.lock.specs.Exact.{exact, exact_line, exact_opening, exact_run, exact_verdict, followed, made_then, opens_exactly, seen, seen_at}
use Rattle.lock.specs.Runs.{Made, Run}
use Rattle.lock.specs.View.{Does, Opened, view}
use Rattle.lock.proofs.Copies.{ExactUnits, cached_exact, deed_exact, opened_masks}

module _ {B : Type 0} (mem : MemoryGhosts B) (one : CostsOne mem.does) where
  abbrev masks_of : Cache B → List ℕ
  masks_of m = m.copies.masks

  -- the cache layer charges an operation its units
  law : (m n : Cache B) (t : ℕ) (op : Operation) (share : ℕ) → (cached mem).does m t op share n → ExactUnits (Touch op) t (masks_of m) share (masks_of n)
  law m n t op share h = cached_exact mem.does one m.below n.below m.copies.masks n.copies.masks t op share h

  -- a line, a verdict
  line_exactly : (why : Option Refusal) (t : ℕ) (r : Record) (d : Deed) (s : State) (m n : Cache B) (share : ℕ) → LineShares (cached mem).does why m t d share n →
      ◌≡◌ {A = Answer × Counted} ((lined why t r d share s).0, seen_at (lined why t r d share s).1 n) (exact_line why t r d (seen_at s m))
  line_exactly None t r d s m n share h = let e = deed_exact (cached mem).does masks_of law d m n t share h in λ i. (done, record { state = after_deed t r d (e.paid i) s; masks = e.left i })
  line_exactly (Some e) t r d s m n share h = λ i. (no e, seen_at s (h.1 i))

  carried_exactly : (v : Verdict) (s z : State) (m n : Cache B) (a : Answer) → Carried (cached mem).does mem.limit v s m a z n → ◌≡◌ {A = Answer × Counted} (a, seen_at z n) (exact_verdict mem.limit v (seen_at s m))
  carried_exactly (line t r) s z m n a (share, told, answers, leaves) =
      let d = next_deed t r.track in
      (λ i. (answers i, seen_at (leaves i) n)) ∙ line_exactly (deed_refusal mem.limit t d s.cells s.waiting) t r d s m n share told
  carried_exactly v s z m n a (share, told, answers, leaves) = λ i. (answers i, seen_at (leaves i) (told.1 i))

  -- a run
  pub runs_exactly : (es : List Made) (s z : State) (m n : Cache B) → Run (cached mem).does mem.limit es s m z n →
      ◌≡◌ {A = List Made × Counted} (es, seen_at z n) (exact_run mem.limit (map (λ (e : Made). e.call) es) (seen_at s m))
  runs_exactly [] s z m n (p, same, k) = λ i. ([], seen_at (same i) (k i))
  runs_exactly (e ∷ es) s z m n (p, (y, k, call, run)) =
      ap (made_then e.call e.answer) (runs_exactly es y z k n run)
      ∙ ap (λ (r : Answer × Counted). made_then e.call r.0 (exact_run mem.limit (map (λ (e : Made). e.call) es) r.1)) (carried_exactly (judge e.call s) s y m k e.answer call)

  -- an opening
  pub opened_exactly : (o : Option Refusal) (s z : State) (m n : Cache B) (roles : List ℕ) (r : Result (Unit {0}) Refusal) → Opens (cached mem).does o s m roles r z n →
      ◌≡◌ {A = Result (Unit {0}) Refusal × Counted} (r, seen_at z n) (opens_exactly o roles (seen_at s m))
  opened_exactly None s z m n roles r (ok, wrote, left) =
      let empty = opened_masks (cached mem).does masks_of (λ m n t op share d. (law m n t op share d).left) m n m.copies.seven wrote in
      λ i. (ok i, record { state = left i; masks = empty i })
  opened_exactly (Some e) s z m n roles r (err, left, kept) = λ i. (err i, seen_at (left i) (kept i))

-- the same of a lock

module _ {B Q : Type 0} (mem : MemoryGhosts B) (que : QueueGhosts Q) (one : CostsOne mem.does) where
  -- one call
  pub does_exactly : (c : Call) (a : Answer) (l l' : Lock (Cache B) Q) → Does (cached mem) que c l a l' → ◌≡◌ {A = Answer × Counted} (a, seen mem que l') (exact mem.limit c (seen mem que l))
  does_exactly c a l l' d = carried_exactly mem one (judge c (view (cached mem) que l)) (view (cached mem) que l) (view (cached mem) que l') l.memory l'.memory a d.0

  -- a plan
  pub follows_exactly : (p : Plan) (a : Answer) (l l' : Lock (Cache B) Q) → Follows (cached mem) que p l a l' → ◌≡◌ {A = Answer × Counted} (a, seen mem que l') (followed mem.limit p (seen mem que l))
  follows_exactly (ends b) a l l' (is, same) = λ i. (is i, seen mem que (same i))
  follows_exactly (makes c next) a l l' (b, m, does, rest) =
      follows_exactly (next b) a m l' rest ∙ ap (λ (r : Answer × Counted). followed mem.limit (next r.0) r.1) (does_exactly c b l m does)

  -- an opening
  pub opens_to : (top : (m : B) → mem.top m ≡ 1) (roles : List ℕ) (r : Result (Unit {0}) Refusal) (l l' : Lock (Cache B) Q) → Opened (cached mem) que l roles r l' →
      ◌≡◌ {A = Result (Unit {0}) Refusal × Counted} (r, seen mem que l') (exact_opening mem.limit roles (seen mem que l))
  opens_to top roles r l l' (opens, same) =
      let s = view (cached mem) que l in
      opened_exactly mem one (open_refusal mem.limit (mem.top l.memory.below) s roles) s (view (cached mem) que l') l.memory l'.memory roles r opens
      ∙ ap (λ n. opens_exactly (open_refusal mem.limit n s roles) roles (seen mem que l)) (top l.memory.below)
