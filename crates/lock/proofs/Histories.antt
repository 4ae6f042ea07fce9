-- What the calls made say of a task is what its record says: its pass, its changes, its attempts and what they cost; and what they put into rows stands there.
use Rattle.std.proofs.Common.{◌≡◌, ℕ, ◌+◌, ◌-◌, ◌<◌, ◌≤◌, ◌≢◌, ◌⊎◌, true, false, cond, min, eqb, ltb, List, [], ◌∷◌, length, get_or, set, Some, None, sym, refl, ap, ◌∙◌, subst, inl, inr, arith}
use Rattle.std.proofs.lemmas.Bool.{cases_eq, eq-eqb, false≢true, ltb-true, ne_eqb}
use Rattle.std.proofs.lemmas.List.{get_or-set_same, get_or-set_other, length-set}
use Rattle.memory.specs.Calls.{Doing}
use Rattle.lines.specs.declared.deed.Found.{Found}
use Rattle.lines.specs.declared.place.Right.{Right}
use Rattle.lines.specs.declared.place.Right.TheVariants.{Reading, Writing}
use Rattle.lines.specs.declared.place.Role.TheVariants.{Reader}
use Rattle.lines.specs.Deeds.{finds}
use Rattle.lines.specs.Lines.{next_deed}
use Rattle.lines.specs.Rights.{right_of}
use Rattle.calls.specs.declared.record.Record.{Record}
use Rattle.calls.specs.declared.refusal.Refusal.{Refusal}
use Rattle.calls.specs.declared.refusal.Refusal.TheVariants.{Upgrades}
use Rattle.calls.specs.Accounts.{charged}
use Rattle.calls.specs.Questions.{out_for}
use Rattle.calls.specs.Records.{begun, downgrading, fresh, leaving, settled, upgrading, with_out}
use Rattle.calls.specs.States.{State, record_of}
use Rattle.calls.specs.Steps.{Answer, Call, Calls, Verdict, advance, at_once, begin, done, downgrade, judge, lay_back, leave, line, no, put, read, refuse, take, upgrade}
use Rattle.calls.proofs.Obeyed.{call_same, yes}
use Rattle.calls.proofs.Sound.{has_out, parts}
use Rattle.lock.specs.Charges.{Counts, Finishes, cost_after, unfinished}
use Rattle.lock.specs.History.{History, history, history_from, made_in, nothing_yet, obeyed_in}
use Rattle.lock.specs.Needs.{AnswersSo, RefusedAsDamaged, Needs}
use Rattle.lock.specs.OneLine.{Did, line_done, line_of, next_line}
use Rattle.lock.specs.Promises.{HasRight}
use Rattle.lock.specs.Rows.{last_put, left_in}
use Rattle.lock.specs.Runs.{Made, RunWhile, task_of, was_obeyed}
use Rattle.lock.proofs.Holds.{at, each_set}
use Rattle.lock.proofs.Asked.{Passed, judged, outcome}
use Rattle.lock.proofs.Judged.{Holding, Lawful, pass_there, task_there}
use Rattle.lock.proofs.Meant.{Meant, meant}
use Rattle.lock.proofs.Runs.{Able, Obeyed, call_able, call_kept, no_right_beside, none_of, run_able}
use Rattle.lock.proofs.Granted.{same_itself, takes, may_begin, may_advance, in_rows, is_thickness, shown, NeedsIn, told_row, judged_clear, obeyed_clear, unasked}
use Rattle.lock.proofs.OneLines.{line_did, line_is}
use Rattle.lock.proofs.Recorded.{told, says_of, arrived_told, cond_same, quiet_finishes, Away, moves, begins, away_unfinished, rests_before, on_line_away, right_away}

-- What a verdict says of the call that it is of.

-- the number in a row
abbrev pub RowOf : ℕ → State → ℕ
RowOf row s = get_or s.table row 0

-- the line of task u, whose record then is r
pub record LineSays (c : Call) (s : State) (u : ℕ) (r : Record) : Type 0 where
  pub is : u ≡ task_of c
  pub line : line_of c (record_of s u).track ≡ next_line r.track.place
  pub away : Away r.track.place
  pub leaves : (row : ℕ) (a : Answer) (v : ℕ) → left_in row c a v ≡ v
  pub says : told r ≡ obeyed_in (told (record_of s u)) c
  pub ends : (f : Found) (share : ℕ) → Finishes (record_of s u) (settled r f share)
  pub costs : (share : ℕ) → min (r.account.cost + share) 4294967295 ≡ cost_after (record_of s u).account.cost share c
  pub needs : NeedsIn s c
  pub answers : AnswersSo s.number c done

-- the answer a, with the state z then
pub record AnswerSays (c : Call) (s : State) (a : Answer) (z : State) : Type 0 where
  pub number : z.number ≡ s.number
  pub rows : length z.table ≡ length s.table
  pub row : (row : ℕ) → RowOf row z ≡ left_in row c a (RowOf row s)
  pub no_line : line_of c (record_of s (task_of c)).track ≡ None
  pub says : (t : ℕ) → 1 ≤ t → told (record_of z t) ≡ made_in t (told (record_of s t)) (record { call = c; answer = a })
  pub still : (cost share : ℕ) → cost_after cost share c ≡ cost
  pub needs : NeedsIn s c
  pub answers : was_obeyed a ≡ true → AnswersSo s.number c a
  pub refused : was_obeyed a ≡ false → z ≡ s

abbrev pub Says : Call → State → Verdict → Type 0
Says c s (refuse e) = Unit {0}
Says c s (line u r) = LineSays c s u r
Says c s (at_once a z) = AnswerSays c s a z

-- of each task f tells what it told, but of the one whose record is replaced, of which it tells what g makes of that
pub replaced_by : {A : Type 0} (f : Record → A) (g : A → A) (rs : List Record) (t u : ℕ) (q : Record) → 1 ≤ t → 1 ≤ u → u ≤ length rs → f q ≡ g (f (get_or rs (u - 1) (fresh Reader))) →
    f (get_or (set rs (u - 1) q) (t - 1) (fresh Reader)) ≡ cond (eqb u t) (g (f (get_or rs (t - 1) (fresh Reader)))) (f (get_or rs (t - 1) (fresh Reader)))
replaced_by f g rs t u q low low' high e =
    let h : u - 1 < length rs = omega arith in
    elim (cases_eq u t) [
      | inl same ↦
          let P : ℕ → Type 0 = λ x. f (get_or (set rs (u - 1) q) (x - 1) (fresh Reader)) ≡ g (f (get_or rs (x - 1) (fresh Reader))) in
          rw (eq-eqb u t same) (subst P same (ap f (get_or-set_same rs (u - 1) q (fresh Reader) h) ∙ e))
      | inr other ↦ rw (ne_eqb u t other) (ap f (get_or-set_other rs (u - 1) (t - 1) q (fresh Reader) (omega arith)))
    ]

-- a record is replaced by one that says what the obeyed call makes of the one before
replaced : (c : Call) (s : State) (t u : ℕ) (q : Record) → 1 ≤ t → 1 ≤ u → u ≤ length s.records → u ≡ task_of c → told q ≡ obeyed_in (told (record_of s u)) c →
    told (get_or (set s.records (u - 1) q) (t - 1) (fresh Reader)) ≡ cond (eqb (task_of c) t) (obeyed_in (told (record_of s t)) c) (told (record_of s t))
replaced c s t u q low low' high is e = replaced_by told (λ h. obeyed_in h c) s.records t u q low low' high e ∙ ap (λ x. cond (eqb x t) (obeyed_in (told (record_of s t)) c) (told (record_of s t))) is

line_finishes : (s : State) (t u : ℕ) (q : Record) → Finishes (record_of s u) q → Finishes (record_of s t) (get_or (set s.records (u - 1) q) (t - 1) (fresh Reader))
line_finishes s t u q k = each_set (λ j x. Finishes (at s.records j) x) s.records (u - 1) q k (λ j. quiet_finishes (at s.records j) (at s.records j) refl refl) (t - 1)

-- the line of a task in an attempt, whose account before it has the finished attempts and the total of r
ends_away : (r q : Record) → Away r.track.place → q.account.finished ≡ r.account.finished → q.account.total ≡ r.account.total → (f : Found) (share : ℕ) → Finishes r (settled q f share)
ends_away r q h e k f share = moves r.track.place (settled q f share).track.place r.account (charged q.account share) h e k

held_away : (s : State) (w : Right) (t : ℕ) → Holding s w t → Away (record_of s t).track.place
held_away s w t p = let k = (record_of s t).track in right_away k.place k.role k.standing w p.right

-- a put leaves its number in its row, and in any other what stood there
row_put : (s : State) (k t r n row : ℕ) → r < length s.table → get_or (set s.table r n) row 0 ≡ left_in row (put k t r n) done (RowOf row s)
row_put s k t r n row within =
    elim (cases_eq r row) [
      | inl is ↦ rw (eq-eqb r row is) (subst (λ j. get_or (set s.table r n) j 0 ≡ n) is (get_or-set_same s.table r n 0 within))
      | inr other ↦ rw (ne_eqb r row other) (get_or-set_other s.table r row n 0 (λ e. other (sym e)))
    ]

-- a refused call leaves in each row what stood there
refused_leaves : (row : ℕ) (c : Call) (e : Refusal) (v : ℕ) → left_in row c (no e) v ≡ v
refused_leaves row (put k t r n) e v = refl
refused_leaves row c e v = refl

-- what a call says where none of its questions is answered no
judged_says : (c : Call) (s : State) → Lawful s → Passed c s → Says c s (outcome c s)
judged_says (begin t) s g (there, (free, _)) =
    let r = record_of s t in
    let k = task_there s t there in
    let n : r.account.finished + 1 ≡ r.account.finished + unfinished r.track.place + 1 = omega (arith, rests_before r.track.place r.account.finished free) in
    record {
      is = refl;
      line = refl;
      leaves = λ row a v. refl;
      away = tt;
      says = ap (λ n. says_of r.out n 0 0) n;
      ends = λ f share. begins r.track.place r.track.role (begun r).track f r.account.finished r.account (charged (begun r).account share) free refl refl;
      costs = λ share. ap (λ n. min n 4294967295) (omega arith);
      needs = (k.0, k.1, may_begin r.track.place r.account.finished free);
      answers = refl;
    }
judged_says (advance t) s g (there, (on, _)) =
    let r = record_of s t in
    let k = task_there s t there in
    record {
      is = refl;
      line = refl;
      leaves = λ row a v. refl;
      away = on_line_away r.track.place on;
      says = refl;
      ends = ends_away r r (on_line_away r.track.place on) refl refl;
      costs = λ share. refl;
      needs = (k.0, k.1, may_advance r.track.place on);
      answers = refl;
    }
judged_says (take w t) s g (there, (may, _)) =
    let r = record_of s t in
    let k = task_there s t there in
    record {
      number = refl;
      rows = refl;
      row = λ row. refl;
      no_line = refl;
      says = λ u low. replaced (take w t) s u t (with_out r (Some w)) low k.0 k.1 refl refl;
      still = λ cost share. refl;
      needs = (k.0, k.1, takes (right_of r.track) r.out w may);
      answers = λ o. refl;
      refused = λ o. absurd (false≢true (sym o));
    }
judged_says (lay_back w k t) s g (out, _) =
    let p = pass_there s w k t g out in
    record {
      number = refl;
      rows = refl;
      row = λ row. refl;
      no_line = refl;
      says = λ u low. replaced (lay_back w k t) s u t (with_out (record_of s t) None) low p.low p.high refl refl;
      still = λ cost share. refl;
      needs = (p.low, p.high, shown s w k t out);
      answers = λ o. refl;
      refused = λ o. absurd (false≢true (sym o));
    }
judged_says (upgrade k t) s g (out, (few, _)) =
    let r = record_of s t in
    let p = pass_there s Reading k t g out in
    let away = held_away s Reading t p in
    record {
      is = refl;
      line = refl;
      leaves = λ row a v. refl;
      away = tt;
      says = ap (λ n. says_of None (r.account.finished + n) (r.account.u + 1) r.account.g) (sym (away_unfinished r.track.place away));
      ends = ends_away r (upgrading r) away refl refl;
      costs = λ share. refl;
      needs = (p.low, p.high, (shown s Reading k t out, ltb-true r.account.u 1000 (yes (ltb r.account.u 1000) Upgrades None few).0));
      answers = refl;
    }
judged_says (downgrade k t) s g (out, _) =
    let r = record_of s t in
    let p = pass_there s Writing k t g out in
    let away = held_away s Writing t p in
    record {
      is = refl;
      line = refl;
      leaves = λ row a v. refl;
      away = tt;
      says = ap (λ n. says_of None (r.account.finished + n) r.account.u (r.account.g + 1)) (sym (away_unfinished r.track.place away));
      ends = ends_away r (downgrading r) away refl refl;
      costs = λ share. refl;
      needs = (p.low, p.high, shown s Writing k t out);
      answers = refl;
    }
judged_says (leave w k t) s g (out, _) =
    let r = record_of s t in
    let p = pass_there s w k t g out in
    let away = held_away s w t p in
    record {
      is = refl;
      line = refl;
      leaves = λ row a v. refl;
      away = tt;
      says = ap (λ n. says_of None (r.account.finished + n) r.account.u r.account.g) (sym (away_unfinished r.track.place away));
      ends = ends_away r (leaving r) away refl refl;
      costs = λ share. refl;
      needs = (p.low, p.high, shown s w k t out);
      answers = refl;
    }
judged_says (read w k t row) s g (out, (is, _)) =
    let p = pass_there s w k t g out in
    record {
      number = refl;
      rows = refl;
      row = λ row. refl;
      no_line = refl;
      says = λ u low. cond_same _ _;
      still = λ cost share. refl;
      needs = (p.low, p.high, (shown s w k t out, in_rows row (length s.table) is));
      answers = told_row (get_or s.table row 0);
      refused = λ o. refl;
    }
judged_says (put k t row n) s g (out, (is, (fits, _))) =
    let p = pass_there s Writing k t g out in
    record {
      number = refl;
      rows = length-set s.table row n;
      row = λ i. row_put s k t row n i (in_rows row (length s.table) is);
      no_line = refl;
      says = λ u low. cond_same _ _;
      still = λ cost share. refl;
      needs = (p.low, p.high, (shown s Writing k t out, in_rows row (length s.table) is, (is_thickness n fits).0, (is_thickness n fits).1));
      answers = λ o. refl;
      refused = λ o. absurd (false≢true (sym o));
    }

pub call_says : (c : Call) (s : State) → Lawful s → Says c s (judge c s)
call_says c s g = judged (Says c s) c s (λ e own. tt) (judged_says c s g)

-- What a call that was carried out so leaves.

pub record Left {M : Type 0} (c : Call) (s : State) (m : M) (a : Answer) (z : State) (n : M) : Type 0 where
  pub number : z.number ≡ s.number
  pub rows : length z.table ≡ length s.table
  pub row : (row : ℕ) → RowOf row z ≡ left_in row c a (RowOf row s)
  pub did : Did (task_of c) (line_done s (record { call = c; answer = a })) s z
  pub says : (t : ℕ) → 1 ≤ t → told (record_of z t) ≡ made_in t (told (record_of s t)) (record { call = c; answer = a })
  pub ends : (t : ℕ) → 1 ≤ t → Finishes (record_of s t) (record_of z t)
  pub needs : was_obeyed a ≡ true → NeedsIn s c
  pub answers : was_obeyed a ≡ true → AnswersSo s.number c a
  pub refused : was_obeyed a ≡ false → (z ≡ s) × (n ≡ m)

left : {M : Type 0} (does : Doing M) (c : Call) (v : Verdict) (s z : State) (m n : M) (a : Answer) → Obeyed does v s m a z n → Meant s v → Says c s v → Left c s m a z n
left does c (refuse e) s z m n a (x, y, same) h k =
    let refused : was_obeyed a ≡ true → ⊥ = λ o. false≢true (sym (ap was_obeyed x) ∙ o) in
    let none : line_done s (record { call = c; answer = a }) ≡ None = ap (λ b. line_done s (record { call = c; answer = b })) x in
    record {
      number = ap (λ (w : State). w.number) y;
      rows = ap (λ (w : State). length w.table) y;
      row = λ i. rw (x, y) (sym (refused_leaves i c e (RowOf i s)));
      did = subst (λ o. Did (task_of c) o s z) (sym none) (ap (λ (w : State). w.cells) y, ap (λ (w : State). w.waiting) y, λ u. ap (λ w. (record_of w u).track) y);
      says = λ t low. ap (λ w. told (record_of w t)) y ∙ ap (λ b. made_in t (told (record_of s t)) (record { call = c; answer = b })) (sym x);
      ends = λ t low. quiet_finishes (record_of s t) (record_of z t) (ap (λ w. (record_of w t).track) y) (ap (λ w. (record_of w t).account) y);
      needs = λ o. absurd (refused o);
      answers = λ o. absurd (refused o);
      refused = λ o. (y, same);
    }
left does c (line u r) s z m n a (x, (share, y, shares)) h k =
    let f = finds (next_deed u r.track) u s.cells s.waiting in
    let q = settled r f share in
    let says : told q ≡ obeyed_in (told (record_of s u)) c = arrived_told q.track.place r.out (charged r.account share) ∙ ap (λ n. says_of r.out (r.account.finished + n) r.account.u r.account.g) (sym (away_unfinished r.track.place k.away)) ∙ k.says in
    record {
      number = ap (λ (w : State). w.number) y;
      rows = ap (λ (w : State). length w.table) y;
      row = λ i. ap (RowOf i) y ∙ sym (k.leaves i a (RowOf i s));
      did = subst (λ o. Did (task_of c) o s z) (sym (line_is c s u r a h x k.is k.line)) (subst (λ t. Did t (Some h.next) s z) k.is (subst (λ w. Did u (Some h.next) s w) (sym y) (line_did s u r share h.next h.low h.high h.leads)));
      says = λ t low. ap (λ w. told (record_of w t)) y ∙ replaced c s t u q low h.low h.high k.is says ∙ ap (λ b. made_in t (told (record_of s t)) (record { call = c; answer = b })) (sym x);
      ends = λ t low. subst (λ w. Finishes (record_of s t) (record_of w t)) (sym y) (line_finishes s t u q (k.ends f share));
      needs = λ o. k.needs;
      answers = λ o. subst (AnswersSo s.number c) (sym x) k.answers;
      refused = λ o. absurd (false≢true (sym o ∙ ap was_obeyed x));
    }
left does c (at_once b w) s z m n a (x, y, same) h k =
    let none : line_done s (record { call = c; answer = a }) ≡ None = ap (λ o. cond (was_obeyed a) o None) k.no_line ∙ sym (cond_same (was_obeyed a) None) in
    record {
      number = ap (λ (w : State). w.number) y ∙ k.number;
      rows = ap (λ (w : State). length w.table) y ∙ k.rows;
      row = λ i. rw (x, y) (k.row i);
      did = subst (λ o. Did (task_of c) o s z) (sym none) (subst (λ q. Did (task_of c) None s q) (sym y) (h.cells, h.waiting, λ u. h.tracks.each (u - 1)));
      says = λ t low. ap (λ w. told (record_of w t)) y ∙ k.says t low ∙ ap (λ b. made_in t (told (record_of s t)) (record { call = c; answer = b })) (sym x);
      ends = λ t low. subst (λ w. Finishes (record_of s t) (record_of w t)) (sym y) (quiet_finishes (record_of s t) (record_of w t) (h.tracks.each (t - 1)) (h.accounts (t - 1)));
      needs = λ o. k.needs;
      answers = λ o. subst (AnswersSo s.number c) (sym x) (k.answers (sym (ap was_obeyed x) ∙ o));
      refused = λ o. (y ∙ k.refused (sym (ap was_obeyed x) ∙ o), same);
    }

-- a pass that is out is for the right that its task has
pub fits_right : (z : State) (t : ℕ) (w : Right) → Lawful z → (record_of z t).out ≡ Some w → HasRight z t w
fits_right z t w g e = let r = record_of z t in has_out (right_of r.track) r.out w (parts r (g.ordered (t - 1))).pass (ap (λ o. out_for o w) e ∙ same_itself w)

none_beside : (z : State) (t u : ℕ) → Lawful z → 1 ≤ t → 1 ≤ u → t ≢ u → HasRight z t Writing → (record_of z u).out ≡ None
none_beside z t u g low low' n w = none_of (record_of z u).out (λ v e. let h = sym (no_right_beside z t u g low low' n w) ∙ fits_right z u v g e in cc)

-- what stays over a run, and what it says of each task
pub record Ran (es : List Made) (s z : State) : Type 0 where
  pub number : z.number ≡ s.number
  pub tasks : length z.records ≡ length s.records
  pub rows : length z.table ≡ length s.table
  pub row : (row : ℕ) → RowOf row z ≡ last_put row es (RowOf row s)
  pub says : (t : ℕ) → 1 ≤ t → told (record_of z t) ≡ history_from t es (told (record_of s t))

module _ {M : Type 0} (does : Doing M) (limit : ℕ) where
  pub call_left : (c : Call) (s z : State) (m n : M) (a : Answer) → Able limit s → Calls does limit c s m a z n → Left c s m a z n
  call_left c s z m n a g h = left does c (judge c s) s z m n a (call_kept does limit c s z m n a g h).obeyed (meant c s g.lawful) (call_says c s g.lawful)

  pub ran : (P : State → Type 0) (es : List Made) (s z : State) (m n : M) → Able limit s → RunWhile does limit P es s m z n → Ran es s z
  ran P [] s z m n g (p, same, k) = record { number = ap (λ (w : State). w.number) same; tasks = ap (λ (w : State). length w.records) same; rows = ap (λ (w : State). length w.table) same; row = λ i. ap (RowOf i) same; says = λ t low. ap (λ w. told (record_of w t)) same }
  ran P (e ∷ es) s z m n g (p, (y, k, call, run)) =
      let rest = ran P es y z k n (call_able does limit e.call s y m k e.answer g call) run in
      let first = call_left e.call s y m k e.answer g call in
      record {
        number = rest.number ∙ first.number;
        tasks = rest.tasks ∙ (call_same does limit s y m k e.call e.answer call).count;
        rows = rest.rows ∙ first.rows;
        row = λ i. rest.row i ∙ ap (last_put i es) (first.row i);
        says = λ t low. rest.says t low ∙ ap (history_from t es) (first.says t low);
      }

  -- A run from a state whose records have no history yet.
  module _ (s : State) (first : (t : ℕ) → told (record_of s t) ≡ nothing_yet) (able : Able limit s) (P : State → Type 0) (es : List Made) (z : State) (m n : M) (run : RunWhile does limit P es s m z n) where
    abbrev now : Able limit z
    now = run_able does limit P es s z m n able run

    pub told_by_run : (t : ℕ) → 1 ≤ t → told (record_of z t) ≡ history t es
    told_by_run t low = (ran P es s z m n able run).says t low ∙ ap (history_from t es) (first t)

    abbrev NeedsBy : Call → Type 0
    NeedsBy c = Needs s.number (length s.records) (length s.table) (history (task_of c) es) (record_of z (task_of c)).track c

    same_needs : (c : Call) → 1 ≤ task_of c → NeedsIn z c ≡ NeedsBy c
    same_needs c low =
        let f = ran P es s z m n able run in
        let h = told_by_run (task_of c) low in
        λ i. Needs (f.number i) (f.tasks i) (f.rows i) (h i) (record_of z (task_of c)).track c

    by_run : (c : Call) → NeedsIn z c → NeedsBy c
    by_run c h = subst (λ (X : Type 0). X) (same_needs c h.0) h

    pub in_state : (c : Call) → NeedsBy c → NeedsIn z c
    in_state c h = subst (λ (X : Type 0). X) (sym (same_needs c h.0)) h

    answers : (c : Call) (a : Answer) (y : State) (p : M) → Calls does limit c z n a y p → was_obeyed a ≡ true → AnswersSo s.number c a
    answers c a y p call o = subst (λ x. AnswersSo x c a) (ran P es s z m n able run).number ((call_left c z y n p a now call).answers o)

    pub granted : (c : Call) (a : Answer) (y : State) (p : M) → Calls does limit c z n a y p → (was_obeyed a ≡ true → NeedsBy c × AnswersSo s.number c a) × (NeedsBy c → (was_obeyed a ≡ true) ⊎ RefusedAsDamaged c a)
    granted c a y p call = (
      (λ o. (by_run c ((call_left c z y n p a now call).needs o), answers c a y p call o)),
      (λ h. obeyed_clear does c (judge c z) z y n p a (call_kept does limit c z y n p a now call).obeyed (judged_clear c z now.lawful.opened (in_state c h))),
    )

    -- a read that has what it needs meets none of its questions
    pub may_read : (w : Right) (k t row : ℕ) → NeedsBy (read w k t row) → Passed (read w k t row) z
    may_read w k t row h = unasked (read w k t row) z now.lawful.opened (in_state (read w k t row) h)

    pub passes : (t : ℕ) → 1 ≤ t → ((record_of z t).out ≡ (history t es).out) × ((w : Right) → (history t es).out ≡ Some w → HasRight z t w × (w ≡ Writing → (u : ℕ) → 1 ≤ u → t ≢ u → (history u es).out ≡ None))
    passes t low =
        let out = λ (u : ℕ) (low : 1 ≤ u). ap (λ (x : History). x.out) (told_by_run u low) in (
          out t low,
          λ w e.
              let has = fits_right z t w now.lawful (out t low ∙ e) in
              (has, λ is u low' apart. sym (out u low') ∙ none_beside z t u now.lawful low low' apart (subst (HasRight z t) is has)),
        )

    pub counts : (t : ℕ) → 1 ≤ t → Counts (history t es) (record_of z t)
    counts t low = let k = told_by_run t low in (ap (λ (h : History). h.upgrades) k, ap (λ (h : History). h.downgrades) k, ap (λ (h : History). h.begins) k)
