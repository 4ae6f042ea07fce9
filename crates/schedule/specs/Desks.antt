-- What the locks of a desk are: a board, which tells the pair of memory and queue that was chosen, and each lock as calls see it.
use Rattle.std.specs.Borrow.{GName, MutBor}
use Rattle.std.specs.Prelude.{◌≡◌, ℕ, false, cond, is_ok, List, [], Some, None, Err, Option, Result}
use Rattle.memory.specs.declared.interface.Memory.{Ghosts as MemoryGhosts}
use Rattle.memory.specs.Cells.{zeros}
use Rattle.memory.specs.Operations.{after}
use Rattle.masks.specs.declared.before.Masks.{Masks as MasksQueue}
use Rattle.masks.specs.Sets.{waiting_of}
use Rattle.packed.specs.declared.word.Packed.{Packed as PackedMemory}
use Rattle.packed.specs.Fields.{fields}
use Rattle.queue.specs.declared.interface.Queue.{Ghosts as QueueGhosts}
use Rattle.queue.specs.declared.ring.Ring.{Ring as RingQueue}
use Rattle.queue.specs.Round.{round}
use Rattle.words.specs.declared.array.Words.{Words as WordsMemory}
use Rattle.calls.specs.declared.refusal.Refusal.{Refusal}
use Rattle.calls.specs.declared.refusal.Refusal.TheVariants.{Shut}
use Rattle.lock.specs.Counted.{Counted}
use Rattle.lock.specs.Exact.{seen}
use Rattle.script.specs.declared.call.MemoryKind.{MemoryKind}
use Rattle.script.specs.declared.call.MemoryKind.TheVariants.{Words, Packed}
use Rattle.script.specs.declared.call.QueueKind.{QueueKind}
use Rattle.script.specs.declared.call.QueueKind.TheVariants.{Ring, Masks}
use Rattle.script.specs.Calls.{Ask, opening, begin, advance, upgrade, downgrade, leave, read, put}
use Rattle.listing.specs.declared.answer.Answer.{Answer}
use Rattle.schedule.specs.declared.desk.Desk.{Desk}
use Rattle.schedule.specs.declared.desk.Locks.{Locks}
use Rattle.schedule.specs.declared.desk.Pair.{Pair}
use Rattle.schedule.specs.Answers.{opened, opened_told, tell}

pub record Board : Type 0 where
  pub chosen : Option Pair
  pub words_ring : Counted
  pub words_masks : Counted
  pub packed_ring : Counted
  pub packed_masks : Counted

-- the lock of a pair
abbrev pub lock_of : MemoryKind → QueueKind → Board → Counted
lock_of Words Ring b = b.words_ring
lock_of Words Masks b = b.words_masks
lock_of Packed Ring b = b.packed_ring
lock_of Packed Masks b = b.packed_masks

-- the board with this as the lock of the pair, and this pair chosen
abbrev pub with_lock : MemoryKind → QueueKind → Counted → Option Pair → Board → Board
with_lock Words Ring x c b = record { chosen = c; words_ring = x; words_masks = b.words_masks; packed_ring = b.packed_ring; packed_masks = b.packed_masks }
with_lock Words Masks x c b = record { chosen = c; words_ring = b.words_ring; words_masks = x; packed_ring = b.packed_ring; packed_masks = b.packed_masks }
with_lock Packed Ring x c b = record { chosen = c; words_ring = b.words_ring; words_masks = b.words_masks; packed_ring = x; packed_masks = b.packed_masks }
with_lock Packed Masks x c b = record { chosen = c; words_ring = b.words_ring; words_masks = b.words_masks; packed_ring = b.packed_ring; packed_masks = x }

-- the largest number of a cell
abbrev pub limit_of : MemoryKind → ℕ
limit_of Words = 4294967295
limit_of Packed = 15

-- the pair to which a call goes: the one that was chosen, or the one that O names
abbrev pub pair_for : Option Pair → Ask → Option Pair
pair_for (Some p) a = Some p
pair_for None (opening m q roles) = Some (record { memory = m; queue = q })
pair_for None (begin t) = None
pair_for None (advance t) = None
pair_for None (upgrade t) = None
pair_for None (downgrade t) = None
pair_for None (leave t) = None
pair_for None (read t row) = None
pair_for None (put t row n) = None

-- a call made at the board: before an O is obeyed any other is refused 10, and an obeyed O has chosen its pair
abbrev pub tell_at : Option Pair → Ask → Board → Result Answer Refusal × Board
tell_at None a b = (Err Shut, b)
tell_at (Some p) a b =
    let r = tell (limit_of p.memory) a (lock_of p.memory p.queue b) in
    (r.0, with_lock p.memory p.queue r.1 (cond (is_ok r.0) (Some p) b.chosen) b)

abbrev pub board_tells : Ask → Board → Result Answer Refusal × Board
board_tells a b = tell_at (pair_for b.chosen a) a b

-- Lock 1, closed, over these rows, with nobody's copies.
abbrev pub closed : List ℕ → Counted
closed rows = record { state = record { number = 1; opened = false; cells = zeros; waiting = []; records = []; table = rows }; masks = zeros }

abbrev pub closed_board : List ℕ → List ℕ → List ℕ → List ℕ → Board
closed_board a b c d = record { chosen = None; words_ring = closed a; words_masks = closed b; packed_ring = closed c; packed_masks = closed d }

-- Words and Packed as memories, each operation at a share of 1, and Ring and Masks as queues.

abbrev pub words : MemoryGhosts WordsMemory
words = record { LIMIT = 4294967295; limit = 4294967295; cells = λ s. s.numbers; top = λ s. 1; does = λ s t op share n. (n.numbers ≡ after op s.numbers) × (share ≡ 1) }

abbrev pub packed : MemoryGhosts PackedMemory
packed = record { LIMIT = 15; limit = 15; cells = λ s. fields s.bits; top = λ s. 1; does = λ s t op share n. (fields n.bits ≡ after op (fields s.bits)) × (share ≡ 1) }

abbrev pub ring : QueueGhosts RingQueue
ring = record { waiting = λ s. round s.numbers s.start s.count }

abbrev pub masks : QueueGhosts MasksQueue
masks = record { waiting = λ s. waiting_of s.before s.who }

-- the locks of a desk, as a board
abbrev pub board : Locks → Board
board l =
    record {
      chosen = l.chosen;
      words_ring = seen words ring l.words_ring;
      words_masks = seen words masks l.words_masks;
      packed_ring = seen packed ring l.packed_ring;
      packed_masks = seen packed masks l.packed_masks;
    }

-- the tables that were lent to them
abbrev pub tables : Locks → GName × GName × GName × GName
tables l = (l.words_ring.table.ghost_name, l.words_masks.table.ghost_name, l.packed_ring.table.ghost_name, l.packed_masks.table.ghost_name)

-- the call a is made, which is told o and leaves the locks l as m
abbrev pub LocksTell : Locks → Ask → Result Answer Refusal → Locks → Type 0
LocksTell l a o m = ◌≡◌ {A = Result Answer Refusal × Board} (o, board m) (board_tells a (board l)) × (tables m ≡ tables l)

-- the lock of the pair is given over to a call, which comes to o; which pair is chosen stays
abbrev pub AtPair : Pair → Locks → (ℕ → Counted → Result Answer Refusal × Counted) → Result Answer Refusal → Locks → Type 0
AtPair p l call o m =
    (let r = call (limit_of p.memory) (lock_of p.memory p.queue (board l)) in ◌≡◌ {A = Result Answer Refusal × Board} (o, board m) (r.0, with_lock p.memory p.queue r.1 l.chosen (board l)))
    × (tables m ≡ tables l)

abbrev pub PairTells : Pair → Locks → Ask → Result Answer Refusal → Locks → Type 0
PairTells p l a o m = AtPair p l (λ limit x. tell limit a x) o m

abbrev pub PairOpens : Pair → Locks → List ℕ → Result ℕ Refusal → Locks → Type 0
PairOpens p l roles r m = AtPair p l (λ limit x. opened limit roles x) (opened_told r) m

-- a desk over four lent tables
abbrev pub DeskOver : MutBor (List ℕ) → MutBor (List ℕ) → MutBor (List ℕ) → MutBor (List ℕ) → Desk → Type 0
DeskOver a b c e d =
    (board d.locks ≡ closed_board a.now b.now c.now e.now) × (tables d.locks ≡ (a.ghost_name, b.ghost_name, c.ghost_name, e.ghost_name))
