-- What an opened lock promises. s is its state when it was opened and m its memory then; each promise speaks of every run from there.
use Rattle.std.specs.Prelude.{◌≡◌, ℕ, ◌+◌, ◌*◌, ◌≤◌, ◌⊎◌, ◌↔◌, true, false, cond, List, [], ◌∷◌, length, map, Some, None, Ok, ◌≢◌, slice_index, ◌==◌}
use Rattle.memory.specs.declared.interface.Memory.{Ghosts as MemoryGhosts}
use Rattle.memory.specs.Calls.{Doing}
use Rattle.cache.specs.declared.layer.Cache.{Cache}
use Rattle.cache.specs.Layers.{cached}
use Rattle.queue.specs.declared.interface.Queue.{Ghosts as QueueGhosts}
use Rattle.lines.specs.declared.place.Place.TheVariants.{Rest, Inside}
use Rattle.lines.specs.declared.place.Right.{Right}
use Rattle.lines.specs.declared.place.Right.TheVariants.{Reading, Writing}
use Rattle.lines.specs.declared.place.Role.TheVariants.{Reader, Writer}
use Rattle.lines.specs.declared.place.Standing.TheVariants.{Normal, Upgraded}
use Rattle.lines.specs.declared.track.Track.{Track}
use Rattle.lines.specs.Classes.{in_section}
use Rattle.lines.specs.Rights.{right_of}
use Rattle.calls.specs.declared.record.Record.{Record}
use Rattle.calls.specs.declared.refusal.Refusal.{Refusal}
use Rattle.calls.specs.declared.refusal.Refusal.TheVariants.{Memory, Queue}
use Rattle.calls.specs.declared.rule.Rule.{Rule}
use Rattle.calls.specs.Checks.{state_checked}
use Rattle.calls.specs.Refusals.{refusal_number}
use Rattle.calls.specs.Rules.{rule_number}
use Rattle.calls.specs.SoundState.{SoundState}
use Rattle.calls.specs.States.{State, record_of}
use Rattle.calls.specs.Steps.{Answer, Call, Calls, done, gives, hands, no, read}
use Rattle.lock.specs.declared.locks.Lock.{Lock}
use Rattle.lock.specs.Charges.{Charges, Counts, TellsShare}
use Rattle.lock.specs.Copying.{ChargesByCopies}
use Rattle.lock.specs.Counted.{CostsOne, Counted}
use Rattle.lock.specs.Exact.{exact_run}
use Rattle.lock.specs.History.{history}
use Rattle.lock.specs.Model.{model_run, unpaid}
use Rattle.lock.specs.Needs.{AnswersSo, RefusedAsDamaged, Needs}
use Rattle.lock.specs.OneLine.{Did, deed_done, line_done}
use Rattle.lock.specs.Rows.{IsOfRow, Reads, last_put}
use Rattle.lock.specs.Runs.{Made, Run, RunWhile, task_of, was_obeyed}
use Rattle.lock.specs.View.{view}

-- a task that never began, of the role that this byte says: at rest, all its numbers 0, nothing paid, and no pass out
abbrev pub never_began : ℕ → Record
never_began b =
    record {
      track = record { role = cond (b == 87) Writer Reader; place = Rest; standing = Normal; prev = 0; curr = 0; d = 0; x = 0 };
      account = record { cost = 0; u = 0; g = 0; total = 0; finished = 0 };
      out = None;
    }

-- the lock number and the rows that the lock had before, the cells C, D, Gate, X, Permit, U, V of an opened lock, an empty queue, and
-- tasks of these roles that never began
abbrev pub Starts : ℕ → List ℕ → List ℕ → State → Type 0
Starts number rows roles s =
    (s.number ≡ number)
    × (s.table ≡ rows)
    × (s.cells ≡ 0 ∷ 0 ∷ 0 ∷ 1 ∷ 1 ∷ 0 ∷ 0 ∷ [])
    × (s.waiting ≡ [])
    × (s.records ≡ map never_began roles)

-- task t has the right w
abbrev pub HasRight : State → ℕ → Right → Type 0
HasRight z t w = right_of (record_of z t).track ≡ Some w

-- The rights of a task on this track: inside it has one, elsewhere none, and it is the writing right where the task is upgraded or is a
-- writer inside as it came.
pub record Rights (r : Track) : Type 0 where
  pub inside : ((w : Right) × (right_of r ≡ Some w)) ↔ r.place ≡ Inside
  pub writing : right_of r ≡ Some Writing ↔ ((r.place ≡ Inside) × ((r.standing ≡ Upgraded) ⊎ ((r.role ≡ Writer) × (r.standing ≡ Normal))))

-- a refusal of the lock itself, and not of the memory or the queue
abbrev pub IsOfLock : Refusal → Type 0
IsOfLock (Memory e) = ⊥
IsOfLock (Queue e) = ⊥
IsOfLock e = 10 ≤ refusal_number e

-- where the call is refused, that is one of the lock's own questions: those of the memory and the queue have the numbers 1 to 6
abbrev pub IsOwn : Answer → Type 0
IsOwn done = Unit {0}
IsOwn (hands w k t) = Unit {0}
IsOwn (gives o) = Unit {0}
IsOwn (no e) = IsOfLock e

module _ {M : Type 0} (does : Doing M) (limit : ℕ) (s : State) (m : M) where
  -- P holds after every run: of the calls made, the state and the memory; with no calls, of the lock just opened
  abbrev pub Always : (List Made → State → M → Type 0) → Type 0
  Always P = (es : List Made) (z : State) (n : M) → Run does limit es s m z n → P es z n

  -- P holds of every next call after every run: of the calls made, the state and the memory before it, the call, its answer, and the
  -- state and the memory after it
  abbrev pub AlwaysNext : (List Made → State → M → Call → Answer → State → M → Type 0) → Type 0
  AlwaysNext P = Always (λ es z n. (c : Call) (a : Answer) (y : State) (p : M) → Calls does limit c z n a y p → P es z n c a y p)

  -- what a call needs so that it is obeyed, by the calls made before it
  abbrev pub NeedsNow : List Made → State → Call → Type 0
  NeedsNow es z c = Needs s.number (length s.records) (length s.table) (history (task_of c) es) (record_of z (task_of c)).track c

  -- Lawful rights: each task has the right that its place, its role and its standing say.
  abbrev pub LawfulRights : Type 0
  LawfulRights = Always (λ es z n. (t : ℕ) → Rights (record_of z t).track)

  -- Exclusion: a task that has a right is in the section; and while a task has the writing right, no other task is in the section, and
  -- so none has a right.
  abbrev pub Exclusion : Type 0
  Exclusion =
      Always (λ es z n. ((t : ℕ) (w : Right) → HasRight z t w → in_section (record_of z t).track ≡ true)
      × ((t u : ℕ) → 1 ≤ t → 1 ≤ u → t ≢ u → HasRight z t Writing → (in_section (record_of z u).track ≡ false) × (right_of (record_of z u).track ≡ None)))

  -- Measured rows: a read that has what it needs gives a thickness only from 1 to 1000000, the number last put into the row or that
  -- stood there at opening; it gives absence exactly where that number is 0, and is refused 32 exactly where it is above 1000000.
  abbrev pub MeasuredRows : Type 0
  MeasuredRows =
      Always (λ es z n. (w : Right) (k t row : ℕ) (a : Answer) (y : State) (p : M) → NeedsNow es z (read w k t row) → Calls does limit (read w k t row) z n a y p →
      Reads (last_put row es (slice_index s.table row)) a)

  -- Steady rows: two reads of a row by a task that has the reading right from the first to the second, after each call in between, and
  -- both of which the row answers, give one answer.
  abbrev pub SteadyRows : Type 0
  SteadyRows =
      Always (λ es z n. (w : Right) (k t row : ℕ) (a : Answer) (z' : State) (n' : M) → Calls does limit (read w k t row) z n a z' n' → IsOfRow a →
      (ds : List Made) (y : State) (p : M) → RunWhile does limit (λ x. HasRight x t Reading) ds z' n' y p →
      (v : Right) (j : ℕ) (b : Answer) (y' : State) (p' : M) → Calls does limit (read v j t row) y p b y' p' → IsOfRow b → b ≡ a)

  -- Obeyed calls: a call that is obeyed has what it needs, and answers as it was asked; one that has it is obeyed, but for a read of a
  -- damaged row.
  abbrev pub ObeyedCalls : Type 0
  ObeyedCalls =
      AlwaysNext (λ es z n c a y p. (was_obeyed a ≡ true → NeedsNow es z c × AnswersSo s.number c a)
      × (NeedsNow es z c → (was_obeyed a ≡ true) ⊎ RefusedAsDamaged c a))

  -- Passes: the pass that is out to a task is the one that the calls made say; it is for the right that the task has, and beside one for
  -- the writing right no other is out. (A second one is never handed out to a task: see what take needs.)
  abbrev pub Passes : Type 0
  Passes =
      Always (λ es z n. (t : ℕ) → 1 ≤ t → ((record_of z t).out ≡ (history t es).out)
      × ((w : Right) → (history t es).out ≡ Some w → HasRight z t w × (w ≡ Writing → (u : ℕ) → 1 ≤ u → t ≢ u → (history u es).out ≡ None)))

  -- Counted accounts: u and g are the upgrades and the downgrades of the task that were obeyed since its latest obeyed begin, and
  -- finished is the number of its obeyed begins, but for an attempt that is not finished.
  abbrev pub CountedAccounts : Type 0
  CountedAccounts = Always (λ es z n. (t : ℕ) → 1 ≤ t → Counts (history t es) (record_of z t))

  -- Charged accounts: an obeyed line adds to the cost of its task the share that the memory told of its operation, nothing where it
  -- touches no cell, and to nobody else's; a call that brings its task to rest adds 1 to its finished attempts and its cost to the total, and no other call moves either.
  abbrev pub ChargedAccounts : Type 0
  ChargedAccounts =
      AlwaysNext (λ es z n c a y p. (share : ℕ) × TellsShare does n (task_of c) (deed_done z (record { call = c; answer = a })) share p
      × ((t : ℕ) → 1 ≤ t → Charges t share (record { call = c; answer = a }) (record_of z t) (record_of y t)))

  -- Own refusals: neither memory nor queue ever refuses a call.
  abbrev pub OwnRefusals : Type 0
  OwnRefusals = AlwaysNext (λ es z n c a y p. IsOwn a)

  -- Refused calls: they leave the state and the memory as they were.
  abbrev pub RefusedCalls : Type 0
  RefusedCalls = AlwaysNext (λ es z n c a y p. was_obeyed a ≡ false → (y ≡ z) × (p ≡ n))

  -- One line: an obeyed begin, advance, upgrade, downgrade or leave does the one line that its task's place and standing say; any other
  -- call, and any refused one, does none.
  abbrev pub OneLine : Type 0
  OneLine = AlwaysNext (λ es z n c a y p. Did (task_of c) (line_done z (record { call = c; answer = a })) z y)

  -- Soundness: the state keeps the six rules, the check finds none broken, and no rule has the number 0, which stands for none.
  abbrev pub Soundness : Type 0
  Soundness = Always (λ es z n. SoundState z.cells z.records × (state_checked z.cells z.records ≡ Ok None) × ((k : Rule) → rule_number k ≢ 0))

  -- The lines decide: but for costs, the state is what the calls alone make of the opened one, whatever memory and queue, and
  -- whatever they told.
  abbrev pub LinesDecide : Type 0
  LinesDecide = Always (λ es z n. unpaid z ≡ model_run es s)

  -- The cost bound, for the ceiling top: no attempt of a task, running or finished, has cost more than (20 + 5u + 2g) times the ceiling,
  -- where u and g are the upgrades and the downgrades of the task that were obeyed since its latest obeyed begin.
  abbrev pub CostBound : ℕ → Type 0
  CostBound top = Always (λ es z n. (t : ℕ) → 1 ≤ t → (record_of z t).account.cost ≤ top * (20 + 5 * (history t es).upgrades + 2 * (history t es).downgrades))

  -- Exact costs, over the cache layer on a memory whose operations cost 1: answers, state and copies are to the unit what the calls come
  -- to over a memory with this limit, which refuses none of them, as own refusals say.
  abbrev pub ExactCosts : (M → List ℕ) → Type 0
  ExactCosts masks =
      Always (λ es z n. ◌≡◌ {A = List Made × Counted} (es, record { state = z; masks = masks n }) (exact_run limit (map (λ e. e.call) es) (record { state = s; masks = masks m })))

  -- all that holds over any memory and any queue, of a lock with this number and these rows that was just opened with these roles
  pub record Promised (number : ℕ) (rows roles : List ℕ) : Type 0 where
    pub starts : Starts number rows roles s
    pub lawful_rights : LawfulRights
    pub exclusion : Exclusion
    pub measured_rows : MeasuredRows
    pub steady_rows : SteadyRows
    pub obeyed_calls : ObeyedCalls
    pub passes : Passes
    pub counted_accounts : CountedAccounts
    pub charged_accounts : ChargedAccounts
    pub own_refusals : OwnRefusals
    pub refused_calls : RefusedCalls
    pub one_line : OneLine
    pub soundness : Soundness
    pub lines_decide : LinesDecide

-- The promises of a lock that was just opened, as it is then.
module _ {M Q : Type 0} (mem : MemoryGhosts M) (que : QueueGhosts Q) (l : Lock M Q) where
  -- all promises, where the lock was so before it was opened with these roles
  abbrev pub KeepsPromises : Lock M Q → List ℕ → Type 0
  KeepsPromises before roles = Promised mem.does mem.limit (view mem que l) l.memory before.number before.table.now roles

  -- the cost bound, for the ceiling of the lock's memory
  abbrev pub KeepsCostBound : Type 0
  KeepsCostBound = CostBound mem.does mem.limit (view mem que l) l.memory (mem.top l.memory)

  -- the same where the memory charges by copies, whichever masks say who holds one
  abbrev pub KeepsCostBoundByCopies : Type 0
  KeepsCostBoundByCopies = (masks : M → List ℕ) → ChargesByCopies mem masks → KeepsCostBound

-- exact costs of such a lock over the cache layer, where each operation below costs 1
abbrev pub KeepsExactCosts : {B Q : Type 0} → MemoryGhosts B → QueueGhosts Q → Lock (Cache B) Q → Type 0
KeepsExactCosts mem que l = CostsOne mem.does → ExactCosts (cached mem).does mem.limit (view (cached mem) que l) l.memory (λ m. m.copies.masks)
