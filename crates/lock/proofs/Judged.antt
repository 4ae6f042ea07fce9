-- What the questions of a call come to on a lock whose facts hold: its own refusal, a line that is the task's next one, or an answer.
use Rattle.std.proofs.Common.{◌≡◌, ℕ, ◌-◌, ◌≤◌, true, eqb, length, Some, None, refl, arith}
use Rattle.std.proofs.lemmas.Bool.{and_parts, leb-true}
use Rattle.lines.specs.declared.deed.Found.{Found}
use Rattle.lines.specs.declared.place.Line.{Line}
use Rattle.lines.specs.declared.place.Line.TheVariants.{L0p1, L16, L25p1, L27p1, Down28p1}
use Rattle.lines.specs.declared.place.Place.{Place}
use Rattle.lines.specs.declared.place.Place.TheVariants.{Rest, Inside, Next}
use Rattle.lines.specs.declared.place.Right.{Right}
use Rattle.lines.specs.declared.place.Right.TheVariants.{Reading, Writing}
use Rattle.lines.specs.declared.place.Role.{Role}
use Rattle.lines.specs.declared.place.Role.TheVariants.{Reader, Writer}
use Rattle.lines.specs.declared.place.Standing.{Standing}
use Rattle.lines.specs.declared.place.Standing.TheVariants.{Normal, Upgraded, Downgraded}
use Rattle.lines.specs.declared.track.Track.{Track}
use Rattle.lines.specs.Lines.{deed_of, goes, next_deed, settle, stepped}
use Rattle.lines.specs.Rights.{right_at, right_of}
use Rattle.lines.specs.Starts.{begin_line, downgrade_line, leave_line, upgrade_line}
use Rattle.calls.specs.declared.account.Account.{Account}
use Rattle.calls.specs.declared.refusal.Refusal.TheVariants.{NoPass, OtherLock, Shut}
use Rattle.calls.specs.declared.record.Record.{Record}
use Rattle.calls.specs.Accounts.{one_more_downgrade, one_more_upgrade, restarted}
use Rattle.calls.specs.Records.{begun, downgrading, in_order, leaving, upgrading}
use Rattle.calls.specs.Questions.{advance_refusal, advance_refusal_at, begin_refusal, begin_refusal_at, is_out, out_for, pass_refusal, task_refusal, upgrade_refusal}
use Rattle.calls.specs.States.{State, record_of}
use Rattle.calls.proofs.Obeyed.{is_task, yes}
use Rattle.calls.proofs.Sound.{begun_in_order, downgrading_in_order, has_out, leaving_in_order, parts, upgrading_in_order}
use Rattle.lock.proofs.Facts.{Before, Cells, OneTask, rank_of_line, seen}
use Rattle.lock.proofs.Holds.{Holds, at}

-- The track q stands before the line l, to which the call of the line brings the task on the track r at place i.
pub record Leads (i : ℕ) (r q : Track) (l : Line) : Type 0 where
  pub before : Before l (seen i r)
  pub deed : (t : ℕ) → next_deed t q ≡ deed_of l t r
  pub steps : (f : Found) → stepped q f ≡ settle l r f

module _ (i prev curr d x : ℕ) where
  abbrev track : Place → Role → Standing → Track
  track p o s = record { role = o; place = p; standing = s; prev = prev; curr = curr; d = d; x = x }

  pub begin_leads : (p : Place) (o : Role) (s : Standing) (finished : ℕ) → begin_refusal_at p finished ≡ None → Leads i (track p o s) (goes (track p o s) (begin_line o)) (begin_line o)
  begin_leads Rest Reader s finished h = record { before = (refl, refl); deed = λ t. refl; steps = λ f. refl }
  begin_leads Rest Writer s finished h = record { before = (refl, refl); deed = λ t. refl; steps = λ f. refl }
  begin_leads p o s finished h = cc

  on_line : (c : Cells) (l : Line) (o : Role) (s : Standing) → OneTask c (seen i (track (Next l) o s)) → Before l (seen i (track (Next l) o s))
  on_line c l o s m = grind arith

  pub advance_leads : (c : Cells) (p : Place) (o : Role) (s : Standing) → OneTask c (seen i (track p o s)) → advance_refusal_at p ≡ None → (l : Line) × Leads i (track p o s) (track p o s) l × (rank_of_line l ≤ 39) × (p ≡ Next l)
  advance_leads c (Next l) o s m h = (l, record { before = on_line c l o s m; deed = λ t. refl; steps = λ f. refl }, m.known_rank, refl)
  advance_leads c p o s m h = cc

  pub upgrade_leads : (p : Place) (o : Role) (s : Standing) → right_at p o s ≡ Some Reading → Leads i (track p o s) (goes (track p o s) upgrade_line) L27p1
  upgrade_leads Inside Reader Normal h = record { before = (omega arith, omega arith, refl); deed = λ t. refl; steps = λ f. refl }
  upgrade_leads Inside o Downgraded h = record { before = (omega arith, omega arith, refl); deed = λ t. refl; steps = λ f. refl }
  upgrade_leads p o s h = cc

  pub downgrade_leads : (p : Place) (o : Role) (s : Standing) → right_at p o s ≡ Some Writing → Leads i (track p o s) (goes (track p o s) (downgrade_line s)) (downgrade_line s)
  downgrade_leads Inside Writer Normal h = record { before = refl; deed = λ t. refl; steps = λ f. refl }
  downgrade_leads Inside o Upgraded h = record { before = refl; deed = λ t. refl; steps = λ f. refl }
  downgrade_leads p o s h = cc

  pub leave_leads : (p : Place) (o : Role) (s : Standing) (w : Right) → right_at p o s ≡ Some w → Leads i (track p o s) (goes (track p o s) (leave_line o s)) (leave_line o s)
  leave_leads Inside Reader Normal w h = record { before = (omega arith, omega arith, refl); deed = λ t. refl; steps = λ f. refl }
  leave_leads Inside Reader Downgraded w h = record { before = (omega arith, omega arith, refl); deed = λ t. refl; steps = λ f. refl }
  leave_leads Inside Writer Downgraded w h = record { before = (refl, refl); deed = λ t. refl; steps = λ f. refl }
  leave_leads Inside o s w h = record { before = refl; deed = λ t. refl; steps = λ f. refl }
  leave_leads p o s w h = cc

-- what the call of a line makes of the account before it: begin starts it anew, upgrade and downgrade count
abbrev pub account_of_call : Line → Account → Account
account_of_call L0p1 a = restarted a
account_of_call L16 a = restarted a
account_of_call L27p1 a = one_more_upgrade a
account_of_call L25p1 a = one_more_downgrade a
account_of_call Down28p1 a = one_more_downgrade a
account_of_call l a = a

begin_account : (o : Role) (a : Account) → restarted a ≡ account_of_call (begin_line o) a
begin_account Reader a = refl
begin_account Writer a = refl

downgrade_account : (s : Standing) (a : Account) → one_more_downgrade a ≡ account_of_call (downgrade_line s) a
downgrade_account Normal a = refl
downgrade_account s a = refl

leave_account : (o : Role) (s : Standing) (a : Account) → a ≡ account_of_call (leave_line o s) a
leave_account Reader Normal a = refl
leave_account Writer Normal a = refl
leave_account o s a = refl

-- a line that is some task's next one is no first line of a call
later_account : (l : Line) (a : Account) → rank_of_line l ≤ 39 → a ≡ account_of_call l a
later_account L0p1 a h = absurd (omega (arith, h))
later_account L16 a h = absurd (omega (arith, h))
later_account L27p1 a h = absurd (omega (arith, h))
later_account L25p1 a h = absurd (omega (arith, h))
later_account Down28p1 a h = absurd (omega (arith, h))
later_account l a h = refl

-- what holds of an opened lock at any time
pub record Lawful (s : State) : Type 0 where
  pub opened : s.opened ≡ true
  pub some : 1 ≤ length s.records
  pub few : length s.records ≤ 64
  pub ordered : (i : ℕ) → in_order (at s.records i) ≡ true
  pub holds : Holds s.cells s.waiting s.records

-- task t, whose record then is r, is to do its next line
pub record Due (s : State) (t : ℕ) (r : Record) : Type 0 where
  pub low : 1 ≤ t
  pub high : t ≤ length s.records
  pub next : Line
  pub leads : Leads (t - 1) (record_of s t).track r.track next
  pub account : r.account ≡ account_of_call next (record_of s t).account
  pub ordered : in_order r ≡ true
  pub stands : r.track.place ≡ Next next

-- what the questions on a task and on a pass tell

pub record Holding (s : State) (w : Right) (t : ℕ) : Type 0 where
  pub low : 1 ≤ t
  pub high : t ≤ length s.records
  pub out : out_for (record_of s t).out w ≡ true
  pub right : right_of (record_of s t).track ≡ Some w

pub task_there : (s : State) (t : ℕ) → task_refusal s t ≡ None → (1 ≤ t) × (t ≤ length s.records)
task_there s t h = let k = is_task s t h in (leb-true 1 t k.low, leb-true t (length s.records) k.high)

pub pass_there : (s : State) (w : Right) (k t : ℕ) → Lawful s → pass_refusal s w k t ≡ None → Holding s w t
pass_there s w k t g h =
    let a = yes s.opened Shut _ h in
    let b = yes (eqb k s.number) OtherLock _ a.1 in
    let c = yes (is_out s w t) NoPass None b.1 in
    let parted = and_parts _ _ c.0 in
    let numbered = and_parts _ _ parted.0 in
    let r = record_of s t in
    record { low = leb-true 1 t numbered.0; high = leb-true t (length s.records) numbered.1; out = parted.1; right = has_out (right_of r.track) r.out w (parts r (g.ordered (t - 1))).pass parted.1 }

module _ (s : State) (t : ℕ) (g : Lawful s) where
  abbrev r : Record
  r = record_of s t

  pub due_begin : task_refusal s t ≡ None → begin_refusal r ≡ None → Due s t (begun r)
  due_begin there free =
      let (low, high) = task_there s t there in
      let k = r.track in
      record { low = low; high = high; next = begin_line k.role; leads = begin_leads (t - 1) k.prev k.curr k.d k.x k.place k.role k.standing r.account.finished free; account = begin_account k.role r.account; ordered = begun_in_order r (g.ordered (t - 1)) free; stands = refl }

  pub due_advance : task_refusal s t ≡ None → advance_refusal r ≡ None → Due s t r
  due_advance there on =
      let (low, high) = task_there s t there in
      let k = r.track in
      let (l, leads, later, is) = advance_leads (t - 1) k.prev k.curr k.d k.x _ k.place k.role k.standing (g.holds.one (t - 1)) on in
      record { low = low; high = high; next = l; leads = leads; account = later_account l r.account later; ordered = g.ordered (t - 1); stands = is }

  pub due_upgrade : Holding s Reading t → upgrade_refusal r ≡ None → Due s t (upgrading r)
  due_upgrade p few = let k = r.track in record { low = p.low; high = p.high; next = L27p1; leads = upgrade_leads (t - 1) k.prev k.curr k.d k.x k.place k.role k.standing p.right; account = refl; ordered = upgrading_in_order r (g.ordered (t - 1)) p.out few; stands = refl }

  pub due_downgrade : Holding s Writing t → Due s t (downgrading r)
  due_downgrade p = let k = r.track in record { low = p.low; high = p.high; next = downgrade_line k.standing; leads = downgrade_leads (t - 1) k.prev k.curr k.d k.x k.place k.role k.standing p.right; account = downgrade_account k.standing r.account; ordered = downgrading_in_order r (g.ordered (t - 1)) p.out; stands = refl }

  pub due_leave : (w : Right) → Holding s w t → Due s t (leaving r)
  due_leave w p = let k = r.track in record { low = p.low; high = p.high; next = leave_line k.role k.standing; leads = leave_leads (t - 1) k.prev k.curr k.d k.x k.place k.role k.standing w p.right; account = leave_account k.role k.standing r.account; ordered = leaving_in_order r w (g.ordered (t - 1)) p.out; stands = refl }
