-- What follows from a plan that the lock followed: it was a run, its task is there where it was obeyed, and all is as it was where
-- it was refused.
use Rattle.std.proofs.Common.{◌≡◌, ℕ, ◌-◌, true, false, [], ◌∷◌, None, Some, Ok, Err, Option, Result, IfErr, refl, sym, ap, ◌∙◌, subst, arith, get_or, set, length}
use Rattle.std.proofs.lemmas.List.{get_or-set_same, set-get_or, set-set}
use Rattle.std.proofs.lemmas.Bool.{false≢true, leb-true}
use Rattle.memory.specs.declared.interface.Memory.{Ghosts as MemoryGhosts}
use Rattle.memory.specs.Calls.{Doing}
use Rattle.queue.specs.declared.interface.Queue.{Ghosts as QueueGhosts}
use Rattle.lines.specs.declared.place.Right.{Right}
use Rattle.lines.specs.declared.place.Role.TheVariants.{Reader}
use Rattle.lines.specs.Rights.{right_of}
use Rattle.calls.specs.declared.refusal.Refusal.{Refusal}
use Rattle.calls.specs.Questions.{pass_refusal, row_refusal, take_refusal, task_refusal}
use Rattle.calls.specs.Records.{fresh, with_out}
use Rattle.calls.specs.States.{State, record_of, with_record}
use Rattle.calls.specs.Steps.{Answer, Call, Calls, Carried, Verdict, asked, at_once, done, hands, lay_back, no, read, row_answer, take}
use Rattle.calls.proofs.Obeyed.{call_refused, call_same, is_task, same_task, taken}
use Rattle.lock.specs.declared.locks.Lock.{Lock}
use Rattle.lock.specs.declared.pass.Kept.{Kept}
use Rattle.lock.specs.declared.pass.Pass.{Pass}
use Rattle.lock.specs.Answers.{spent}
use Rattle.lock.specs.ByTask.{ByPlan, Follows, IsOut, Plan, Runs, Settles, ends, laid_back, laid_where_refused, makes, read_by, shows, spends, used, with_pass}
use Rattle.lock.specs.Runs.{was_obeyed}
use Rattle.lock.specs.View.{Does, view}

-- an answer is not both: that of an obeyed call, and that of a refused one
not_both : (a b : Answer) → a ≡ b → was_obeyed b ≡ true → was_obeyed a ≡ false → ⊥
not_both a b is obeyed refused = false≢true (sym refused ∙ ap was_obeyed is ∙ obeyed)

none_out : (has out : Option Right) (w : Right) → take_refusal has out w ≡ None → out ≡ None
none_out (Some v) None w h = refl
none_out has out w h = cc

-- a pass for the right w went out to task t, which is there and had none, and can be laid back
record Handed (s : State) (w : Right) (t : ℕ) (z : State) : Type 0 where
  there : task_refusal s t ≡ None
  free : (record_of s t).out ≡ None
  state : z ≡ with_record s t (with_out (record_of s t) (Some w))
  out : pass_refusal z w s.number t ≡ None

module _ {M : Type 0} (does : Doing M) (limit : ℕ) (s z : State) (m n : M) {P : Type 0} where
  -- a question was answered no, or what comes after it was carried out
  asked_either : (o : Option Refusal) (v : Verdict) (a : Answer) → ((e : Refusal) → a ≡ no e → z ≡ s → P) → (o ≡ None → Carried does limit v s m a z n → P) → Carried does limit (asked o v) s m a z n → P
  asked_either None v a refused next h = next refl h
  asked_either (Some e) v a refused next h = refused e h.2 h.3

  -- a take came to a refusal or to a pass
  taking : (w : Right) (t : ℕ) (a : Answer) → ((e : Refusal) → a ≡ no e → z ≡ s → P) → (a ≡ hands w s.number t → Handed s w t z → P) → Calls does limit (take w t) s m a z n → P
  taking w t a refused handed h =
      let r = record_of s t in
      let v = at_once (hands w s.number t) (with_record s t (with_out r (Some w))) in
      asked_either (task_refusal s t) (asked (take_refusal (right_of r.track) r.out w) v) a refused
      (λ there. asked_either (take_refusal (right_of r.track) r.out w) v a refused (λ free x. handed x.2 (record {
        there = there;
        free = none_out (right_of r.track) r.out w free;
        state = x.3;
        out = (taken does limit s z m n w t w s.number t (subst (λ b. Calls does limit (take w t) s m b z n) x.2 h)).out;
      }))) h

module _ {M : Type 0} (does : Doing M) (limit : ℕ) (s z : State) (m n : M) where
  -- a read alters nothing
  read_keeps : (w : Right) (k t row : ℕ) (a : Answer) → Calls does limit (read w k t row) s m a z n → z ≡ s
  read_keeps w k t row a =
      let v = at_once (row_answer (get_or s.table row 0)) s in
      asked_either does limit s z m n (pass_refusal s w k t) (asked (row_refusal row (length s.table)) v) a (λ e is same. same)
      (λ out. asked_either does limit s z m n (row_refusal row (length s.table)) v a (λ e is same. same) (λ there x. x.3))

  -- a pass that went out and is laid back leaves all as it was
  back : (y : State) (w : Right) (t : ℕ) (a : Answer) → Handed z w t y → Calls does limit (lay_back w z.number t) y m a s n → s ≡ z
  back y w t a went h =
      let r = record_of z t in
      let q = with_out r (Some w) in
      let k = is_task z t went.there in
      let i = t - 1 in
      let own : get_or (set z.records i q) i (fresh Reader) ≡ q = get_or-set_same z.records i q (fresh Reader) (omega (arith, leb-true 1 t k.low, leb-true t (length z.records) k.high)) in
      let laid : Carried does limit (at_once done (with_record y t (with_out (record_of y t) None))) y m a s n =
      subst (λ o. Carried does limit (asked o (at_once done (with_record y t (with_out (record_of y t) None)))) y m a s n) went.out h in
      laid.3 ∙ ap (λ (x : State). with_record x t (with_out (record_of x t) None)) went.state
      ∙ ap (λ rs. record { number = z.number; opened = z.opened; cells = z.cells; waiting = z.waiting; records = rs; table = z.table })
      (set-set z.records i q (with_out (get_or (set z.records i q) i (fresh Reader)) None) ∙ ap (λ x. set z.records i (with_out x None)) own ∙ ap (λ o. set z.records i (with_out r o)) (sym went.free) ∙ set-get_or z.records i (fresh Reader))

module _ {M Q : Type 0} (mem : MemoryGhosts M) (que : QueueGhosts Q) where
  -- a plan that was followed is a run of the nine calls
  follows_runs : (p : Plan) (l : Lock M Q) (a : Answer) (l' : Lock M Q) → Follows mem que p l a l' → Runs mem que l l'
  follows_runs (ends b) l a l' f = ([], (tt, ap (λ (x : Lock M Q). view mem que x) f.1, ap (λ (x : Lock M Q). x.memory) f.1))
  follows_runs (makes c next) l a l' (b, m, made, rest) =
      let r = follows_runs (next b) m a l' rest in
      (record { call = c; answer = b } ∷ r.0, (tt, (view mem que m, m.memory, made.0, r.1)))

  -- a task that is there stays there
  still_there : (p : Plan) (l : Lock M Q) (a : Answer) (l' : Lock M Q) (t : ℕ) → Follows mem que p l a l' → task_refusal (view mem que l) t ≡ None → task_refusal (view mem que l') t ≡ None
  still_there (ends b) l a l' t f there = rw f.1 there
  still_there (makes c next) l a l' t (b, m, made, rest) there =
      still_there (next b) m a l' t rest (same_task (view mem que l) (view mem que m) t (call_same mem.does mem.limit (view mem que l) (view mem que m) l.memory m.memory c b made.0) there)

  -- a refused call leaves the state
  stays : (l m : Lock M Q) (c : Call) (a : Answer) → was_obeyed a ≡ false → Does mem que c l a m → view mem que m ≡ view mem que l
  stays l m c (no e) refused made = call_refused mem.does mem.limit (view mem que l) (view mem que m) l.memory m.memory c e made.0
  stays l m c a refused made = absurd (not_both a a refl refl refused)

  module _ (t : ℕ) (l : Lock M Q) (a : Answer) (l' : Lock M Q) where
    -- nothing was done, or a pass went out and was used
    by_pass : {P : Type 0} (w : Right) (plan : ℕ → ℕ → Plan) → ((e : Refusal) → a ≡ no e → view mem que l' ≡ view mem que l → P) → ((m : Lock M Q) → Handed (view mem que l) w t (view mem que m) → Follows mem que (plan l.number t) m a l' → P) → Follows mem que (with_pass w t plan) l a l' → P
    by_pass w plan none one (b, m, took, rest) =
        taking mem.does mem.limit (view mem que l) (view mem que m) l.memory m.memory w t b
        (λ e is same. let r : Follows mem que (ends (no e)) m a l' = subst (λ x. Follows mem que (used plan x) m a l') is rest in none e r.0 (ap (λ (x : Lock M Q). view mem que x) r.1 ∙ same))
        (λ is went. one m went (subst (λ x. Follows mem que (used plan x) m a l') is rest))
        took.0

    -- what is promised of a call by task holds, where all is as it was if what was done with the pass is refused
    by_plan : (w : Right) (plan : ℕ → ℕ → Plan) → ((m : Lock M Q) → Handed (view mem que l) w t (view mem que m) → Follows mem que (plan l.number t) m a l' → was_obeyed a ≡ false → view mem que l' ≡ view mem que l) → Follows mem que (with_pass w t plan) l a l' → ByPlan mem que (with_pass w t plan) t l a l'
    by_plan w plan same f =
        record {
          follows = f;
          runs = follows_runs (with_pass w t plan) l a l' f;
          there = λ obeyed. by_pass w plan (λ e is left. absurd (not_both (no e) a (sym is) obeyed refl)) (λ m went rest. still_there (with_pass w t plan) l a l' t f went.there) f;
          same = λ refused. by_pass w plan (λ e is left. left) (λ m went rest. same m went rest refused) f;
        }

    module _ (w : Right) (m : Lock M Q) (went : Handed (view mem que l) w t (view mem que m)) (n : Lock M Q) where
      -- where the pass is laid back, and nothing was altered before, all is as it was
      laid_same : (b : Answer) → view mem que n ≡ view mem que m → Follows mem que (laid_back w l.number t b) n a l' → view mem que l' ≡ view mem que l
      laid_same b same (d, q, laid, (g, is)) =
          ap (λ (x : Lock M Q). view mem que x) is
          ∙ back mem.does mem.limit (view mem que q) (view mem que l) n.memory q.memory (view mem que m) w t d went (subst (λ x. Calls mem.does mem.limit (lay_back w l.number t) x n.memory d (view mem que q) q.memory) same laid.0)

      -- so too where a call that spends the pass is refused
      spent_same : (c : Call) (b : Answer) → Does mem que c m b n → Follows mem que (laid_where_refused w l.number t b) n a l' → was_obeyed a ≡ false → view mem que l' ≡ view mem que l
      spent_same c (no x) made rest refused = laid_same (no x) (stays m n c (no x) refl made) rest
      spent_same c b made rest refused = absurd (not_both a b rest.0 refl refused)

    -- a call by task that spends the pass
    pub spending : (w : Right) (c : ℕ → ℕ → Call) → Follows mem que (spends w t c) l a l' → ByPlan mem que (spends w t c) t l a l'
    spending w c = by_plan w (λ k u. makes (c k u) (laid_where_refused w k u)) (λ m went x. spent_same w m went x.1 (c l.number t) x.0 x.2 x.3)

    -- one that shows it
    pub showing : (w : Right) (c : ℕ → ℕ → Call) → Follows mem que (shows w t c) l a l' → ByPlan mem que (shows w t c) t l a l'
    showing w c =
        by_plan w (λ k u. makes (c k u) (laid_back w k u))
        (λ m went x refused. laid_same w m went x.1 x.0 (stays m x.1 (c l.number t) x.0 (ap was_obeyed (sym x.3.3.0) ∙ refused) x.2) x.3)

    -- a read leaves all as it was even where it is obeyed
    pub reads_same : (w : Right) (row : ℕ) → Follows mem que (read_by w t row) l a l' → view mem que l' ≡ view mem que l
    reads_same w row =
        by_pass w (λ k u. makes (read w k u row) (laid_back w k u)) (λ e is left. left)
        (λ m went x. laid_same w m went x.1 x.0 (read_keeps mem.does mem.limit (view mem que m) (view mem que x.1) m.memory x.1.memory w l.number t row x.0 x.2.0) x.3)

  -- a pass that was taken is out
  pub taken_out : {R : Type 0} (w : Right) (t : ℕ) (l m : Lock M Q) (pass : Pass R) → Does mem que (take w t) l (hands w pass.lock pass.task) m → IsOut mem que w pass.lock pass.task m
  taken_out w t l m pass took = (taken mem.does mem.limit (view mem que l) (view mem que m) l.memory m.memory w t w pass.lock pass.task took.0).out

  -- A pass that was taken, and a call with it.
  module _ {R : Type 0} (w : Right) (t : ℕ) (c : ℕ → ℕ → Call) (l m n : Lock M Q) (pass : Pass R) (took : Does mem que (take w t) l (hands w pass.lock pass.task) m) where
    -- the pass that came back is out
    pub kept_out : (made : Result (Unit {0}) (Kept (Pass R))) → IfErr made (λ x. x.pass ≡ pass) → Does mem que (c pass.lock pass.task) m (spent made) n → IfErr made (λ x. IsOut mem que w x.pass.lock x.pass.task n)
    kept_out (Ok _) back did = tt
    kept_out (Err x) back did =
        rw back (ap (λ s. pass_refusal s w pass.lock pass.task) (stays m n (c pass.lock pass.task) (no x.why) refl did) ∙ taken_out w t l m pass took)

    -- what was done is a call by task that spends the pass
    pub settled : (made : Result (Unit {0}) (Kept (Pass R))) → IfErr made (λ x. x.pass ≡ pass) → Does mem que (c pass.lock pass.task) m (spent made) n → (a : Answer) (l' : Lock M Q) → Settles mem que w made n a l' → ByPlan mem que (spends w t c) t l a l'
    settled (Ok _) back did a l' told = spending t l a l' w c (hands w pass.lock pass.task, m, took, (done, n, did, told))
    settled (Err x) back did a l' (is, laid) = spending t l a l' w c (hands w pass.lock pass.task, m, took, (no x.why, n, did, (done, l', rw back at laid, (is, refl))))

    -- what was done is a call by task that shows the pass
    pub shown : (a : Answer) → Does mem que (c pass.lock pass.task) m a n → (l' : Lock M Q) → Does mem que (lay_back w pass.lock pass.task) n done l' → ByPlan mem que (shows w t c) t l a l'
    shown a did l' laid = showing t l a l' w c (hands w pass.lock pass.task, m, took, (a, n, did, (done, l', laid, (refl, refl))))
