-- What a lock over the cache layer on a store tells, call by call.
use Rattle.std.proofs.Common.{◌≡◌, ℕ, List, length, Result, refl, ap, ◌∙◌}
use Rattle.cache.specs.declared.layer.Cache.{Cache}
use Rattle.cache.specs.Layers.{cached}
use Rattle.queue.specs.declared.interface.Queue.{Ghosts as QueueGhosts}
use Rattle.calls.specs.declared.refusal.Refusal.{Refusal}
use Rattle.calls.specs.Steps as calls
use Rattle.lock.specs.declared.locks.Lock.{Lock}
use Rattle.lock.specs.ByTask.{Follows, Plan, ends, makes, once}
use Rattle.lock.specs.Counted.{Counted}
use Rattle.lock.specs.Exact.{seen}
use Rattle.lock.specs.View.{Does, Opened}
use Rattle.lock.proofs.Answering.{stored}
use Rattle.lock.proofs.Exactly.{follows_exactly, opens_to}
use Rattle.listing.specs.declared.answer.Answer.{Answer}
use Rattle.schedule.specs.Answers.{answered, opened, opening_told, planned}

module _ {S Q : Type 0} (que : QueueGhosts Q) (limit : ℕ) (numbers : S → List ℕ) (l l' : Lock (Cache S) Q) where
  abbrev pub Table : Type 0
  Table = l'.table.ghost_name ≡ l.table.ghost_name

  -- the call a tells o, and the lock is then l'
  abbrev pub Told : Result Answer Refusal → Result Answer Refusal × Counted → Type 0
  Told o r = ◌≡◌ {A = Result Answer Refusal × Counted} (o, seen (stored limit numbers) que l') r × Table

  pub opens : (roles : List ℕ) (r : Result (Unit {0}) Refusal) → Opened (cached (stored limit numbers)) que l roles r l' → Told (opening_told (length roles) r) (opened limit roles (seen (stored limit numbers) que l))
  opens roles r h = (
    ap (λ (p : Result (Unit {0}) Refusal × Counted). (opening_told (length roles) p.0, p.1)) (opens_to (stored limit numbers) que (λ s t op share n d. d.1) (λ s. refl) roles r l l' h),
    h.1,
  )

module _ {S Q : Type 0} (que : QueueGhosts Q) (limit : ℕ) (numbers : S → List ℕ) where
  same_table : (p : Plan) (a : calls.Answer) (l l' : Lock (Cache S) Q) → Follows (cached (stored limit numbers)) que p l a l' → l'.table.ghost_name ≡ l.table.ghost_name
  same_table (ends b) a l l' (is, same) = ap (λ (k : Lock (Cache S) Q). k.table.ghost_name) same
  same_table (makes c next) a l l' (b, m, does, rest) = same_table (next b) a m l' rest ∙ does.1

  -- a plan of task t
  pub follows : (t : ℕ) (p : Plan) (a : calls.Answer) (l l' : Lock (Cache S) Q) → Follows (cached (stored limit numbers)) que p l a l' →
      Told que limit numbers l l' (answered a (seen (stored limit numbers) que l').state t) (planned limit t p (seen (stored limit numbers) que l))
  follows t p a l l' h = (
    ap (λ (r : calls.Answer × Counted). (answered r.0 r.1.state t, r.1)) (follows_exactly (stored limit numbers) que (λ s t op share n d. d.1) p a l l' h),
    same_table p a l l' h,
  )

  -- one call
  pub does : (t : ℕ) (c : calls.Call) (a : calls.Answer) (l l' : Lock (Cache S) Q) → Does (cached (stored limit numbers)) que c l a l' →
      Told que limit numbers l l' (answered a (seen (stored limit numbers) que l').state t) (planned limit t (once c) (seen (stored limit numbers) que l))
  does t c a l l' h = follows t (once c) a l l' (a, l', h, (refl, refl))
