-- What a call costs: the share that the memory told of its line, charged to its task alone.
use Rattle.std.proofs.Common.{◌≡◌, ℕ, ◌-◌, ◌≤◌, cond, ◌&&◌, eqb, None, sym, refl, ap, ◌∙◌, subst}
use Rattle.memory.specs.Calls.{Doing}
use Rattle.lines.specs.declared.deed.Deed.{Deed}
use Rattle.lines.specs.declared.deed.Deed.TheVariants.{Touch}
use Rattle.lines.specs.declared.place.Place.{Place}
use Rattle.lines.specs.declared.place.Place.TheVariants.{Rest}
use Rattle.lines.specs.Deeds.{finds}
use Rattle.lines.specs.Lines.{next_deed}
use Rattle.calls.specs.declared.account.Account.{Account}
use Rattle.calls.specs.declared.record.Record.{Record}
use Rattle.calls.specs.Accounts.{charged}
use Rattle.calls.specs.Records.{arrived, settled}
use Rattle.calls.specs.States.{State, record_of}
use Rattle.calls.specs.Steps.{Answer, Call, Calls, Shares, Verdict, at_once, judge, line, refuse}
use Rattle.lock.specs.Charges.{Charges, TellsShare, cost_after, cost_made}
use Rattle.lock.specs.Runs.{task_of, was_obeyed}
use Rattle.lock.proofs.Meant.{Meant, meant}
use Rattle.lock.proofs.Runs.{Able, Obeyed, call_kept}
use Rattle.lock.proofs.Recorded.{cond_same}
use Rattle.lines.specs.Lines.{deed_of}
use Rattle.lock.specs.OneLine.{deed_done, deed_for, line_done}
use Rattle.lock.proofs.Histories.{Says, call_left, call_says, replaced_by}
use Rattle.lock.proofs.OneLines.{line_is}

module _ {M : Type 0} (does : Doing M) (limit : ℕ) where
  deed_tells : (d : Deed) (m n : M) (t share : ℕ) → Shares does m t d share n → TellsShare does m t d share n
  deed_tells (Touch op) m n t share h = h
  deed_tells d m n t share h = h

  arrived_cost : (p : Place) (a : Account) → (arrived p a).cost ≡ a.cost
  arrived_cost Rest a = refl
  arrived_cost p a = refl

  -- the share that was told of the call, and what it makes of each cost
  abbrev Costs : Call → State → M → Answer → State → M → Type 0
  Costs c s m a z n =
      (share : ℕ) × TellsShare does m (task_of c) (deed_done s (record { call = c; answer = a })) share n
      × ((t : ℕ) → 1 ≤ t → (record_of z t).account.cost ≡ cost_made t (record_of s t).account.cost share (record { call = c; answer = a }))

  -- no deed was done, and nothing was told
  none_told : (c : Call) (s : State) (a : Answer) (m n : M) (share : ℕ) → line_done s (record { call = c; answer = a }) ≡ None → (share ≡ 0) × (n ≡ m) → TellsShare does m (task_of c) (deed_done s (record { call = c; answer = a })) share n
  none_told c s a m n share none h = subst (λ o. TellsShare does m (task_of c) (deed_for o (task_of c) (record_of s (task_of c)).track) share n) (sym none) h

  obeyed_costs : (c : Call) (v : Verdict) (s z : State) (m n : M) (a : Answer) → Meant s v → Says c s v → Obeyed does v s m a z n → Costs c s m a z n
  obeyed_costs c (refuse e) s z m n a h k (x, y, same) = (
    0,
    none_told c s a m n 0 (ap (λ b. line_done s (record { call = c; answer = b })) x) (refl, same),
    λ t low. ap (λ w. (record_of w t).account.cost) y ∙ ap (λ b. cost_made t (record_of s t).account.cost 0 (record { call = c; answer = b })) (sym x),
  )
  obeyed_costs c (line u r) s z m n a h k (x, (share, y, shares)) =
      let d = next_deed u r.track in
      let told : TellsShare does m u (deed_of h.next u (record_of s u).track) share n = subst (λ p. TellsShare does m u p share n) (h.leads.deed u) (deed_tells d m n u share shares) in
      let at : TellsShare does m (task_of c) (deed_of h.next (task_of c) (record_of s (task_of c)).track) share n = subst (λ t. TellsShare does m t (deed_of h.next t (record_of s t).track) share n) k.is told in
      let q = settled r (finds d u s.cells s.waiting) share in
      let cost : q.account.cost ≡ cost_after (record_of s u).account.cost share c = arrived_cost q.track.place (charged r.account share) ∙ k.costs share in (
        share,
        subst (λ o. TellsShare does m (task_of c) (deed_for o (task_of c) (record_of s (task_of c)).track) share n) (sym (line_is c s u r a h x k.is k.line)) at,
        λ t low.
            ap (λ w. (record_of w t).account.cost) y ∙ replaced_by (λ (x : Record). x.account.cost) (λ n. cost_after n share c) s.records t u q low h.low h.high cost
            ∙ ap (λ x. cond (eqb x t) (cost_after (record_of s t).account.cost share c) (record_of s t).account.cost) k.is ∙ ap (λ b. cost_made t (record_of s t).account.cost share (record { call = c; answer = b })) (sym x),
      )
  obeyed_costs c (at_once b w) s z m n a h k (x, y, same) = (
    0,
    none_told c s a m n 0 (ap (λ o. cond (was_obeyed a) o None) k.no_line ∙ sym (cond_same (was_obeyed a) None)) (refl, same),
    λ t low.
        let cost = (record_of s t).account.cost in
        let test = was_obeyed a && eqb (task_of c) t in
        ap (λ w. (record_of w t).account.cost) y ∙ ap (λ (x : Account). x.cost) (h.accounts (t - 1)) ∙ cond_same test cost ∙ ap (λ n. cond test n cost) (sym (k.still cost 0)),
  )

  -- a call costs its task the share that was told, and accounts move as the places of tasks say
  pub charged_account : (c : Call) (s z : State) (m n : M) (a : Answer) → Able limit s → Calls does limit c s m a z n →
      (share : ℕ) × TellsShare does m (task_of c) (deed_done s (record { call = c; answer = a })) share n × ((t : ℕ) → 1 ≤ t → Charges t share (record { call = c; answer = a }) (record_of s t) (record_of z t))
  charged_account c s z m n a g h =
      let (share, tells, cost) = obeyed_costs c (judge c s) s z m n a (meant c s g.lawful) (call_says c s g.lawful) (call_kept does limit c s z m n a g h).obeyed in
      (share, tells, λ t low. (cost t low, (call_left does limit c s z m n a g h).ends t low))
