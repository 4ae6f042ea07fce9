-- Lines done at a desk, or at the lock that it has chosen, and through an output.
use Rattle.std.proofs.Common.{◌≡◌, ℕ, Bool, true, false, List, cond, is_ok, Some, None, Option, Result, sym, refl, ◌∙◌, subst}
use Rattle.calls.specs.declared.refusal.Refusal.{Refusal as LockRefusal}
use Rattle.cache.specs.declared.layer.Cache.{Cache}
use Rattle.memory.specs.declared.interface.Memory.{Ghosts as MemoryGhosts}
use Rattle.queue.specs.declared.interface.Queue.{Ghosts as QueueGhosts}
use Rattle.lock.specs.declared.locks.Lock.{Lock}
use Rattle.lock.specs.Counted.{Counted}
use Rattle.lock.specs.Exact.{seen}
use Rattle.script.specs.declared.call.MemoryKind.{MemoryKind}
use Rattle.script.specs.declared.call.MemoryKind.TheVariants.{Words, Packed}
use Rattle.script.specs.declared.call.QueueKind.{QueueKind}
use Rattle.script.specs.declared.call.QueueKind.TheVariants.{Ring, Masks}
use Rattle.script.specs.declared.reader.Reader.{Reader}
use Rattle.script.specs.declared.refusal.Refusal.{Refusal as LineRefusal}
use Rattle.script.specs.Calls.{Ask}
use Rattle.script.specs.Reading.{to_come}
use Rattle.listing.specs.declared.answer.Answer.{Answer}
use Rattle.listing.specs.declared.output.Output.{Output}
use Rattle.listing.specs.Outputs.{held}
use Rattle.schedule.specs.declared.desk.Pair.{Pair}
use Rattle.schedule.specs.declared.desk.Locks.{Locks}
use Rattle.schedule.specs.Answers.{Tells, tell}
use Rattle.schedule.specs.Desks.{Board, board, board_tells, limit_of, with_lock}
use Rattle.schedule.specs.Lists.{ListsInto, ListsOnInto}
use Rattle.schedule.proofs.Runs.{all_keep, lists_seen}

module _ {S K E : Type 0} (contents : K → Option (List ℕ)) (does : S → Ask → Result Answer LockRefusal → S → Type 0) where
  -- lines listed through an output, as the board has them
  module _ (board : S → Board) (sees : (s : S) (a : Ask) (o : Result Answer LockRefusal) (t : S) → does s a o t → ◌≡◌ {A = Result Answer LockRefusal × Board} (o, board t) (board_tells a (board s))) where
    pub into_seen : (untold : Option LineRefusal) → untold ≡ None → (s t : S) (r q : Reader) (o p : Output K) (e : Result (Unit {0}) E) → ListsInto contents does s r o e t q p →
        ListsOnInto contents (record { untold = untold; number = r.number; left = to_come r; board = board s }) o e (record { untold = untold; number = q.number; left = to_come q; board = board t }) p
    into_seen untold none s t r q o p e (rest, h, kept) = (rest, lists_seen does board sees untold none s t r q (held o) rest _ _ h, kept)

  -- what each call keeps, they keep
  module _ {N : Type 0} (name : S → N) (keeps : (s : S) (a : Ask) (o : Result Answer LockRefusal) (t : S) → does s a o t → name t ≡ name s) where
    pub into_keeps : (s t : S) (r q : Reader) (o p : Output K) (e : Result (Unit {0}) E) → ListsInto contents does s r o e t q p → name t ≡ name s
    into_keeps s t r q o p e (rest, h, kept) = all_keep does name keeps h.done s t h.replies h.obeyed

-- A call to the lock that is chosen is one at the board.

either_way : {A : Type 0} (b : Bool) (a : A) → cond b a a ≡ a
either_way true a = refl
either_way false a = refl

chosen_told : (W : Counted → Option Pair → Board) (T : Option Pair → Result Answer LockRefusal × Board) (p : Pair) (c : Option Pair) (o : Result Answer LockRefusal) (y : Counted) (r : Result Answer LockRefusal × Counted) → c ≡ Some p →
    ◌≡◌ {A = Result Answer LockRefusal × Counted} (o, y) r → ◌≡◌ {A = Result Answer LockRefusal × Board} (r.0, W r.1 (cond (is_ok r.0) (Some p) (Some p))) (T (Some p)) → ◌≡◌ {A = Result Answer LockRefusal × Board} (o, W y c) (T c)
chosen_told W T p c o y r is told same =
    let stays : Some p ≡ cond (is_ok r.0) (Some p) (Some p) = sym (either_way (is_ok r.0) (Some p)) in
    let at : ◌≡◌ {A = Result Answer LockRefusal × Board} (o, W y (Some p)) (r.0, W r.1 (cond (is_ok r.0) (Some p) (Some p))) = λ i. ((told i).0, W (told i).1 (stays i)) in
    subst (λ d. ◌≡◌ {A = Result Answer LockRefusal × Board} (o, W y d) (T d)) (sym is) (at ∙ same)

chosen_sees : (m : MemoryKind) (q : QueueKind) (b : Board) (c : Option Pair) → c ≡ Some (record { memory = m; queue = q }) → (a : Ask) (o : Result Answer LockRefusal) (x y : Counted) →
    ◌≡◌ {A = Result Answer LockRefusal × Counted} (o, y) (tell (limit_of m) a x) → ◌≡◌ {A = Result Answer LockRefusal × Board} (o, with_lock m q y c b) (board_tells a (with_lock m q x c b))
chosen_sees Words Ring b c is a o x y told = chosen_told (λ z d. with_lock Words Ring z d b) (λ d. board_tells a (with_lock Words Ring x d b)) _ c o y (tell (limit_of Words) a x) is told refl
chosen_sees Words Masks b c is a o x y told = chosen_told (λ z d. with_lock Words Masks z d b) (λ d. board_tells a (with_lock Words Masks x d b)) _ c o y (tell (limit_of Words) a x) is told refl
chosen_sees Packed Ring b c is a o x y told = chosen_told (λ z d. with_lock Packed Ring z d b) (λ d. board_tells a (with_lock Packed Ring x d b)) _ c o y (tell (limit_of Packed) a x) is told refl
chosen_sees Packed Masks b c is a o x y told = chosen_told (λ z d. with_lock Packed Masks z d b) (λ d. board_tells a (with_lock Packed Masks x d b)) _ c o y (tell (limit_of Packed) a x) is told refl

-- lines listed by the lock of the pair that is chosen
module _ {B Q K E : Type 0} (contents : K → Option (List ℕ)) (m : MemoryKind) (k : QueueKind) (mem : MemoryGhosts B) (que : QueueGhosts Q) (l l' : Lock (Cache B) Q) (r q : Reader) (o p : Output K) (e : Result (Unit {0}) E)
    (lists : ListsInto contents (Tells mem que (limit_of m)) l r o e l' q p) where
  abbrev board_with : Locks → Lock (Cache B) Q → Board
  board_with d l = with_lock m k (seen mem que l) d.chosen (board d)

  pub chosen_listed : (d : Locks) (pair : Pair) → d.chosen ≡ Some pair → pair.memory ≡ m → pair.queue ≡ k → (untold : Option LineRefusal) → untold ≡ None →
      ListsOnInto contents (record { untold = untold; number = r.number; left = to_come r; board = board_with d l }) o e (record { untold = untold; number = q.number; left = to_come q; board = board_with d l' }) p
  chosen_listed d pair is memory queue untold none =
      let chosen = is ∙ (λ i. Some (record { memory = memory i; queue = queue i })) in
      into_seen contents (Tells mem que (limit_of m)) (board_with d) (λ x a o y told. chosen_sees m k (board d) d.chosen chosen a o (seen mem que x) (seen mem que y) told.0) untold none l l' r q o p e lists

  pub table_kept : l'.table.ghost_name ≡ l.table.ghost_name
  table_kept = into_keeps contents (Tells mem que (limit_of m)) (λ (x : Lock (Cache B) Q). x.table.ghost_name) (λ x a o y told. told.1) l l' r q o p e lists
