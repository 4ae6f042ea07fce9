-- What each call comes to on a lock whose facts hold: a refusal of its own, a line that is due, or an answer that leaves all tasks where they are.
use Rattle.std.proofs.Common.{◌≡◌, ℕ, ◌-◌, get_or, Some, None, Option, sym, refl, subst, inl, inr, lit≤}
use Rattle.lines.specs.declared.place.Right.{Right}
use Rattle.lines.specs.declared.place.Right.TheVariants.{Reading, Writing}
use Rattle.calls.specs.declared.record.Record.{Record}
use Rattle.calls.specs.Records.{with_out}
use Rattle.calls.specs.States.{State, record_of, with_record, with_row}
use Rattle.calls.specs.Steps.{Answer, Call, Verdict, advance, at_once, begin, done, downgrade, hands, judge, lay_back, leave, line, put, read, refuse, row_answer, take, upgrade}
use Rattle.calls.proofs.Sound.{back_in_order, out_in_order}
use Rattle.lock.specs.Promises.{IsOfLock, IsOwn}
use Rattle.lock.proofs.Holds.{at}
use Rattle.lock.proofs.Judged.{Due, Lawful, due_advance, due_begin, due_downgrade, due_leave, due_upgrade, pass_there}
use Rattle.lock.proofs.Measured.{row_says}
use Rattle.lock.proofs.Lasting.{SameTracks, each_same, pass_lawful, track_same}
use Rattle.lock.proofs.Asked.{Passed, judged, outcome}

-- an answer that leaves cells, queue, places and accounts
pub record Quiet (s : State) (a : Answer) (z : State) : Type 0 where
  pub own : IsOwn a
  pub lawful : Lawful z
  pub cells : z.cells ≡ s.cells
  pub waiting : z.waiting ≡ s.waiting
  pub tracks : SameTracks s.records z.records
  pub accounts : (i : ℕ) → (at z.records i).account ≡ (at s.records i).account

abbrev pub Meant : State → Verdict → Type 0
Meant s (refuse e) = IsOfLock e
Meant s (line t r) = Due s t r
Meant s (at_once a z) = Quiet s a z

own_row_answer : (n : ℕ) → IsOwn (row_answer n)
own_row_answer n = elim (row_says n) [ inl p ↦ subst IsOwn (sym p.1) tt | inr e ↦ subst IsOwn (sym e) (lit≤ tt) ]

-- a pass goes out or comes back
quiet_pass : (s : State) (t : ℕ) (o : Option Right) (a : Answer) → IsOwn a → Lawful (with_record s t (with_out (record_of s t) o)) → Quiet s a (with_record s t (with_out (record_of s t) o))
quiet_pass s t o a own g =
    record { own = own; lawful = g; cells = refl; waiting = refl; tracks = track_same s.records (t - 1) (with_out (record_of s t) o) refl; accounts = each_same (λ (x : Record). x.account) s.records (t - 1) (with_out (record_of s t) o) refl }

-- the table is not among the facts
row_lawful : (s : State) (row n : ℕ) → Lawful s → Lawful (with_row s row n)
row_lawful s row n g = record { opened = g.opened; some = g.some; few = g.few; ordered = g.ordered; holds = g.holds }

-- what is meant where no question is answered no
meant_then : (c : Call) (s : State) → Lawful s → Passed c s → Meant s (outcome c s)
meant_then (begin t) s g (there, (free, _)) = due_begin s t g there free
meant_then (advance t) s g (there, (on, _)) = due_advance s t g there on
meant_then (take w t) s g (there, (may, _)) = quiet_pass s t (Some w) (hands w s.number t) tt (pass_lawful s t (Some w) g (out_in_order (record_of s t) w (g.ordered (t - 1)) may))
meant_then (lay_back w k t) s g h = quiet_pass s t None done tt (pass_lawful s t None g (back_in_order (record_of s t) (g.ordered (t - 1))))
meant_then (upgrade k t) s g (out, (few, _)) = due_upgrade s t g (pass_there s Reading k t g out) few
meant_then (downgrade k t) s g (out, _) = due_downgrade s t g (pass_there s Writing k t g out)
meant_then (leave w k t) s g (out, _) = due_leave s t g w (pass_there s w k t g out)
meant_then (read w k t row) s g h = record { own = own_row_answer (get_or s.table row 0); lawful = g; cells = refl; waiting = refl; tracks = record { count = refl; each = λ i. refl }; accounts = λ i. refl }
meant_then (put k t row n) s g h = record { own = tt; lawful = row_lawful s row n g; cells = refl; waiting = refl; tracks = record { count = refl; each = λ i. refl }; accounts = λ i. refl }

pub meant : (c : Call) (s : State) → Lawful s → Meant s (judge c s)
meant c s g = judged (Meant s) c s (λ e own. own.0) (meant_then c s g)
