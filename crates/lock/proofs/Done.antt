-- A line that was done is the verdict carried out.
use Rattle.std.proofs.Common.{◌≡◌, ℕ, ◌-◌, set, None, refl, ap, ◌∙◌, subst}
use Rattle.memory.specs.Calls.{Doing}
use Rattle.lines.specs.declared.deed.Deed.{Deed}
use Rattle.lines.specs.declared.deed.Found.{Found}
use Rattle.lines.specs.Deeds.{finds, cells_after, waiting_after}
use Rattle.lines.specs.Lines.{next_deed}
use Rattle.calls.specs.declared.record.Record.{Record}
use Rattle.calls.specs.Records.{settled}
use Rattle.calls.specs.States.{State}
use Rattle.calls.specs.Steps.{done, line, deed_refusal, after_deed, Shares, Carried}

module _ {M : Type 0} (limit : ℕ) (does : Doing M) (s z : State) (m n : M) (t : ℕ) (r : Record) where
  -- d is the deed that was done, with what it found and told, and the task's record is then y
  pub line_done : (d : Deed) (f : Found) (share : ℕ) (y : Record) → d ≡ next_deed t r.track →
      deed_refusal limit t d s.cells s.waiting ≡ None → f ≡ finds d t s.cells s.waiting → Shares does m t d share n → y ≡ settled r f share →
      z.number ≡ s.number → z.opened ≡ s.opened → z.cells ≡ cells_after d s.cells → z.waiting ≡ waiting_after d t s.waiting → z.records ≡ set s.records (t - 1) y → z.table ≡ s.table →
      Carried does limit (line t r) s m done z n
  line_done d f share y is allowed found shares new number opened cells waiting records table =
      let due = next_deed t r.track in
      let allowed' : deed_refusal limit t due s.cells s.waiting ≡ None = subst (λ p. deed_refusal limit t p s.cells s.waiting ≡ None) is allowed in
      let own : y ≡ settled r (finds due t s.cells s.waiting) share = new ∙ ap (λ v. settled r v share) (found ∙ ap (λ p. finds p t s.cells s.waiting) is) in
      let left : z ≡ after_deed t r due share s = λ i. record {
        number = number i;
        opened = opened i;
        cells = (cells ∙ ap (λ p. cells_after p s.cells) is) i;
        waiting = (waiting ∙ ap (λ p. waiting_after p t s.waiting) is) i;
        records = (records ∙ ap (set s.records (t - 1)) own) i;
        table = table i;
      } in
      (share, rw allowed' (subst (λ p. Shares does m t p share n) is shares), rw allowed' refl, rw allowed' left)
