-- What calls come to over the cache layer, where each operation of the memory below costs 1: one function, for every state.
use Rattle.std.specs.Prelude.{ℕ, List, [], ◌∷◌, Some, None, Ok, Err, Option, Result}
use Rattle.cache.specs.declared.layer.Cache.{Cache}
use Rattle.cache.specs.Layers.{cached}
use Rattle.memory.specs.declared.interface.Memory.{Ghosts as MemoryGhosts}
use Rattle.memory.specs.Cells.{zeros}
use Rattle.queue.specs.declared.interface.Queue.{Ghosts as QueueGhosts}
use Rattle.lines.specs.declared.deed.Deed.{Deed}
use Rattle.lines.specs.Lines.{next_deed}
use Rattle.calls.specs.declared.record.Record.{Record}
use Rattle.calls.specs.declared.refusal.Refusal.{Refusal}
use Rattle.calls.specs.Opening.{open_refusal, opened_to}
use Rattle.calls.specs.States.{State}
use Rattle.calls.specs.Steps.{Answer, Call, Verdict, after_deed, at_once, deed_refusal, done, judge, line, no, refuse}
use Rattle.lock.specs.declared.locks.Lock.{Lock}
use Rattle.lock.specs.ByTask.{Plan, ends, makes}
use Rattle.lock.specs.Counted.{Counted, masks_after, unit_share}
use Rattle.lock.specs.Runs.{Made}
use Rattle.lock.specs.View.{view}

-- the deed d of task t as the next line of the record r: one that the memory or the queue refuses leaves all as it was
abbrev pub exact_line : Option Refusal → ℕ → Record → Deed → Counted → Answer × Counted
exact_line None t r d x = (done, record { state = after_deed t r d (unit_share d t x.masks) x.state; masks = masks_after d t x.masks })
exact_line (Some e) t r d x = (no e, x)

-- a verdict, over a memory with this limit
abbrev pub exact_verdict : ℕ → Verdict → Counted → Answer × Counted
exact_verdict limit (refuse e) x = (no e, x)
exact_verdict limit (line t r) x = exact_line (deed_refusal limit t (next_deed t r.track) x.state.cells x.state.waiting) t r (next_deed t r.track) x
exact_verdict limit (at_once a z) x = (a, record { state = z; masks = x.masks })

-- a call: its answer, and the state and the copies then
abbrev pub exact : ℕ → Call → Counted → Answer × Counted
exact limit c x = exact_verdict limit (judge c x.state) x

-- a plan
abbrev pub followed : ℕ → Plan → Counted → Answer × Counted
followed limit (ends a) x = (a, x)
followed limit (makes c next) x = followed limit (next (exact limit c x).0) (exact limit c x).1

-- a call that was answered so, in front of what the later ones come to
abbrev pub made_then : Call → Answer → List Made × Counted → List Made × Counted
made_then c a rest = (record { call = c; answer = a } ∷ rest.0, rest.1)

-- calls, one after the other: each with its answer, and the state and the copies then
abbrev pub exact_run : ℕ → List Call → Counted → List Made × Counted
exact_run limit [] x = ([], x)
exact_run limit (c ∷ cs) x = made_then c (exact limit c x).0 (exact_run limit cs (exact limit c x).1)

-- an opening, which empties the copies: its result, and the state and the copies then
abbrev pub opens_exactly : Option Refusal → List ℕ → Counted → Result (Unit {0}) Refusal × Counted
opens_exactly None roles x = (Ok tt, record { state = opened_to roles x.state; masks = zeros })
opens_exactly (Some e) roles x = (Err e, x)

abbrev pub exact_opening : ℕ → List ℕ → Counted → Result (Unit {0}) Refusal × Counted
exact_opening limit roles x = opens_exactly (open_refusal limit 1 x.state roles) roles x

-- a state over the cache layer, and a lock over it, as that function sees them

abbrev pub seen_at : {B : Type 0} → State → Cache B → Counted
seen_at s m = record { state = s; masks = m.copies.masks }

abbrev pub seen : {B Q : Type 0} → MemoryGhosts B → QueueGhosts Q → Lock (Cache B) Q → Counted
seen mem que l = seen_at (view (cached mem) que l) l.memory
