-- The line that is due is the one that the call does by its task's place and standing, and what it leaves.
use Rattle.std.proofs.Common.{◌≡◌, ℕ, ◌-◌, ◌<◌, ◌≤◌, length, Some, sym, ap, ◌∙◌, arith}
use Rattle.std.proofs.lemmas.List.{get_or-set_same, get_or-set_other}
use Rattle.lines.specs.declared.place.Line.{Line}
use Rattle.lines.specs.declared.place.Role.TheVariants.{Reader}
use Rattle.lines.specs.Deeds.{cells_after, finds, waiting_after}
use Rattle.lines.specs.Lines.{deed_of, next_deed, settle}
use Rattle.calls.specs.declared.record.Record.{Record}
use Rattle.calls.specs.Records.{fresh, settled}
use Rattle.calls.specs.States.{State, record_of}
use Rattle.calls.specs.Steps.{Answer, Call, after_deed, done}
use Rattle.lock.specs.OneLine.{Did, line_done, line_of, next_line}
use Rattle.lock.specs.Runs.{task_of}
use Rattle.lock.proofs.Judged.{Due, Leads}

-- what a line leaves, by the line that it is of the task's track
pub line_did : (s : State) (u : ℕ) (r : Record) (share : ℕ) (l : Line) → 1 ≤ u → u ≤ length s.records → Leads (u - 1) (record_of s u).track r.track l → Did u (Some l) s (after_deed u r (next_deed u r.track) share s)
line_did s u r share l low high leads =
    let k = (record_of s u).track in
    let due = next_deed u r.track in
    let own = deed_of l u k in
    let same : due ≡ own = leads.deed u in
    let y = settled r (finds due u s.cells s.waiting) share in
    let h : u - 1 < length s.records = omega arith in (
      ap (λ p. cells_after p s.cells) same,
      ap (λ p. waiting_after p u s.waiting) same,
      ap (λ (x : Record). x.track) (get_or-set_same s.records (u - 1) y (fresh Reader) h) ∙ leads.steps (finds due u s.cells s.waiting) ∙ ap (λ p. settle l k (finds p u s.cells s.waiting)) same,
      λ t low' apart. ap (λ (x : Record). x.track) (get_or-set_other s.records (u - 1) (t - 1) y (fresh Reader) (omega arith)),
    )

-- the line that is due is the one that the call does
pub line_is : (c : Call) (s : State) (u : ℕ) (r : Record) (a : Answer) (d : Due s u r) → a ≡ done → u ≡ task_of c → line_of c (record_of s u).track ≡ next_line r.track.place → line_done s (record { call = c; answer = a }) ≡ Some d.next
line_is c s u r a d x is of = ap (λ b. line_done s (record { call = c; answer = b })) x ∙ ap (λ t. line_of c (record_of s t).track) (sym is) ∙ of ∙ ap next_line d.stands
