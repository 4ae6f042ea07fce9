-- What a call of an operation answers and leaves, over any memory.
use Rattle.std.specs.Prelude.{◌≡◌, ℕ, ◌≤◌, Bool, cond, ◌==◌, List, Some, None, Ok, Err, Result, nat_le, nat_lt, slice_index}
use Rattle.memory.specs.declared.refusal.Refusal.{Refusal}
use Rattle.memory.specs.declared.refusal.Refusal.TheVariants.{Task, Cell}
use Rattle.memory.specs.declared.operation.Operation.{Operation}
use Rattle.memory.specs.declared.operation.Operation.TheVariants.{Swap}
use Rattle.memory.specs.declared.operation.Reply.{Reply}
use Rattle.memory.specs.Operations.{after, cell_of, refusal}

-- how a memory does operations: before, task, operation, share of the cost, after
abbrev pub Doing : Type 0 → Type 1
Doing S = S → ℕ → Operation → ℕ → S → Type 0

-- what every memory owes of each operation that it does: the cells after it, a share within the ceiling, the ceiling as it was
abbrev pub Kept : {S : Type 0} → (S → List ℕ) → (S → ℕ) → S → Operation → ℕ → S → Type 0
Kept cells top s op share t = (cells t ≡ after op (cells s)) × (share ≤ top s) × (top t ≡ top s)

-- a call takes the memory from s to t: either no question is answered no, it gives v and does the operation,
-- or the first that is gives the refusal and the memory is as it was
abbrev pub Called : {S V : Type 0} → ℕ → (S → List ℕ) → (S → ℕ) → Doing S → S → S → ℕ → Operation → V → Result (Reply V) Refusal → Type 0
Called limit cells top does s t task op v (Ok a) = (refusal limit task op (cells s) ≡ None) × (a.value ≡ v) × does s task op a.share t × Kept cells top s op a.share t
Called limit cells top does s t task op v (Err e) = (refusal limit task op (cells s) ≡ Some e) × (t ≡ s)

-- such a call that gives the number which the operation's cell held
abbrev pub GivesHeld : {S : Type 0} → ℕ → (S → List ℕ) → (S → ℕ) → Doing S → S → S → ℕ → Operation → Result (Reply ℕ) Refusal → Type 0
GivesHeld limit cells top does s t task op r = Called limit cells top does s t task op (slice_index (cells s) (cell_of op)) r

-- such a call of a swap, which says whether the cell held the expected number
abbrev pub SaysWhetherHeld : {S : Type 0} → ℕ → (S → List ℕ) → (S → ℕ) → Doing S → S → S → ℕ → (cell expected new : ℕ) → Result (Reply Bool) Refusal → Type 0
SaysWhetherHeld limit cells top does s t task cell expected new r =
    Called limit cells top does s t task (Swap cell expected new) (slice_index (cells s) cell == expected) r

-- a cell's number, as no task's operation
abbrev pub cell_shown : List ℕ → ℕ → Result ℕ Refusal
cell_shown xs c = cond (nat_lt c 7) (Ok (slice_index xs c)) (Err Cell)

-- the question on the cell alone
abbrev pub known_cell : ℕ → Result (Unit {0}) Refusal
known_cell cell = cond (nat_lt cell 7) (Ok tt) (Err Cell)

-- the questions on the task and the cell alone
abbrev pub placed : ℕ → ℕ → Result (Unit {0}) Refusal
placed task cell = cond (nat_le 1 task) (cond (nat_le task 64) (known_cell cell) (Err Task)) (Err Task)
