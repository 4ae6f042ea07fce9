-- After any run from an opened lock the facts hold: exclusion, that a call is obeyed or meets a question of its own, and soundness.
use Rattle.std.proofs.Common.{◌≡◌, ℕ, ◌-◌, ◌≤◌, Bool, true, false, cond, ◌≢◌, List, [], ◌∷◌, length, Some, None, Option, sym, ◌∙◌, refl, ap, subst, arith}
use Rattle.std.proofs.lemmas.Bool.{false≢true}
use Rattle.memory.specs.Calls.{Doing}
use Rattle.lines.specs.declared.place.Place.{Place}
use Rattle.lines.specs.declared.place.Right.{Right}
use Rattle.lines.specs.declared.place.Right.TheVariants.{Writing}
use Rattle.lines.specs.declared.place.Role.{Role}
use Rattle.lines.specs.declared.place.Standing.{Standing}
use Rattle.lines.specs.Classes.{has_upgraded, in_section, is_counted, is_upgrading, is_writing_normally, may_write, section_at}
use Rattle.lines.specs.Lines.{next_deed}
use Rattle.lines.specs.Rights.{right_at, right_of}
use Rattle.calls.specs.States.{State, record_of}
use Rattle.calls.specs.Steps.{Answer, Call, Calls, Carried, LineShares, Shares, Verdict, after_deed, at_once, done, judge, line, lined, no, refuse}
use Rattle.calls.proofs.Obeyed.{call_same}
use Rattle.lock.specs.Promises.{HasRight, IsOwn}
use Rattle.lock.specs.Runs.{Made, RunWhile}
use Rattle.lock.proofs.Allowed.{allowed}
use Rattle.lock.proofs.Facts.{Cells, OneTask, Task, TwoTasks}
use Rattle.lock.proofs.Holds.{at}
use Rattle.lock.proofs.Judged.{Lawful}
use Rattle.lock.proofs.Lasting.{line_lawful}
use Rattle.lock.proofs.Meant.{Meant, meant}

-- an opened lock over a memory with this limit
pub record Able (limit : ℕ) (s : State) : Type 0 where
  pub lawful : Lawful s
  pub fits : length s.records ≤ limit
  pub two : 2 ≤ limit

-- What the questions came to is what happens: a refusal leaves all as it was, a line that is due is done, an answer is given
abbrev pub Obeyed : {M : Type 0} → Doing M → Verdict → State → M → Answer → State → M → Type 0
Obeyed does (refuse e) s m a z n = (a ≡ no e) × (z ≡ s) × (n ≡ m)
Obeyed does (line t r) s m a z n = (a ≡ done) × ((share : ℕ) × (z ≡ after_deed t r (next_deed t r.track) share s) × Shares does m t (next_deed t r.track) share n)
Obeyed does (at_once b x) s m a z n = (a ≡ b) × (z ≡ x) × (n ≡ m)

module _ {M : Type 0} (does : Doing M) (limit : ℕ) where
  -- a call is obeyed or meets a question of its own, and the facts hold after it
  pub record CallKept (v : Verdict) (s : State) (m : M) (a : Answer) (z : State) (n : M) : Type 0 where
    pub own : IsOwn a
    pub obeyed : Obeyed does v s m a z n
    pub lawful : Lawful z

  carried_kept : (v : Verdict) (s z : State) (m n : M) (a : Answer) → Able limit s → Meant s v → Carried does limit v s m a z n → CallKept v s m a z n
  carried_kept (refuse e) s z m n a g h (share, told, x, y) = record { own = subst IsOwn (sym x) h; obeyed = (x, y, told.1); lawful = subst Lawful (sym y) g.lawful }
  carried_kept (line t r) s z m n a g h (share, told, x, y) =
      let d = next_deed t r.track in
      let none = allowed limit s t r g.lawful g.fits g.two h in
      let answer : a ≡ done = subst (λ o. a ≡ (lined o t r d share s).0) none x in
      let left : z ≡ after_deed t r d share s = subst (λ o. z ≡ (lined o t r d share s).1) none y in
      record { own = subst IsOwn (sym answer) tt; obeyed = (answer, (share, left, subst (λ o. LineShares does o m t d share n) none told)); lawful = subst Lawful (sym left) (line_lawful s t r share g.lawful h) }
  carried_kept (at_once b w) s z m n a g h (share, told, x, y) = record { own = subst IsOwn (sym x) h.own; obeyed = (x, y, told.1); lawful = subst Lawful (sym y) h.lawful }

  pub call_kept : (c : Call) (s z : State) (m n : M) (a : Answer) → Able limit s → Calls does limit c s m a z n → CallKept (judge c s) s m a z n
  call_kept c s z m n a g h = carried_kept (judge c s) s z m n a g (meant c s g.lawful) h

  pub call_able : (c : Call) (s z : State) (m n : M) (a : Answer) → Able limit s → Calls does limit c s m a z n → Able limit z
  call_able c s z m n a g h = record { lawful = (call_kept c s z m n a g h).lawful; fits = omega (arith, (call_same does limit s z m n c a h).count, g.fits); two = g.two }

  pub run_able : (P : State → Type 0) (es : List Made) (s z : State) (m n : M) → Able limit s → RunWhile does limit P es s m z n → Able limit z
  run_able P [] s z m n g (p, same, k) = subst (Able limit) (sym same) g
  run_able P (e ∷ es) s z m n g (p, (y, k, call, run)) = run_able P es y z k n (call_able e.call s y m k e.answer g call) run

-- exclusion

alone : (c : Cells) (a b : Task) → OneTask c a → OneTask c b → TwoTasks c a b → a.number ≢ b.number → a.writing ≡ 1 → b.section ≡ 0
alone c a b m k p n e = grind arith

no_one : (b : Bool) → cond {A = ℕ} b 1 0 ≡ 0 → b ≡ false
no_one true e = absurd (omega arith)
no_one false e = refl

one : (b : Bool) → b ≡ true → cond {A = ℕ} b 1 0 ≡ 1
one b e = ap (λ x. cond x 1 0) e

pub apart : (s : State) (i j : ℕ) → Lawful s → i ≢ j → may_write (at s.records i).track ≡ true → in_section (at s.records j).track ≡ false
apart s i j g n e = no_one _ (alone _ _ _ (g.holds.one i) (g.holds.one j) (g.holds.pair i j n) (omega arith) (one _ e))

pub excluded : (z : State) (t u : ℕ) → Lawful z → 1 ≤ t → 1 ≤ u → t ≢ u → HasRight z t Writing → in_section (record_of z u).track ≡ false
excluded z t u g low low' n w = apart z (t - 1) (u - 1) g (omega arith) (ap (λ x. Rattle.lines.specs.Classes.is_writing x) w)

inside_section : (p : Place) (o : Role) (s : Standing) (w : Right) → right_at p o s ≡ Some w → section_at p ≡ true
inside_section p o s w h = grind arith

-- a task that has a right is in the section
pub section_with_right : (z : State) (t : ℕ) (w : Right) → HasRight z t w → in_section (record_of z t).track ≡ true
section_with_right z t w h = let k = (record_of z t).track in inside_section k.place k.role k.standing w h

pub none_of : {A : Type 0} (o : Option A) → ((v : A) → o ≡ Some v → ⊥) → o ≡ None
none_of None f = refl
none_of (Some v) f = absurd (f v refl)

pub no_right_beside : (z : State) (t u : ℕ) → Lawful z → 1 ≤ t → 1 ≤ u → t ≢ u → HasRight z t Writing → right_of (record_of z u).track ≡ None
no_right_beside z t u g low low' n w = none_of (right_of (record_of z u).track) (λ v e. false≢true (sym (excluded z t u g low low' n w) ∙ section_with_right z u v e))
