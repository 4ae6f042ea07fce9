-- The cost bound: each task's account is backed by units, of which a place allows no more than Costs says.
use Rattle.std.proofs.Common.{◌≡◌, ℕ, zero, suc, ◌+◌, ◌-◌, ◌*◌, ◌<◌, ◌≤◌, cond, eqb, ◌≢◌, List, [], ◌∷◌, length, get_or, map, set, IfOk, Some, None, Option, Result, sym, refl, ap, ◌∙◌, subst, arith}
use Rattle.std.proofs.lemmas.Bool.{eq-eqb, ne_eqb}
use Rattle.memory.specs.declared.operation.Operation.{Operation}
use Rattle.memory.specs.Calls.{Doing}
use Rattle.memory.specs.Cells.{zeros}
use Rattle.lines.specs.declared.deed.Deed.{Deed}
use Rattle.lines.specs.declared.deed.Deed.TheVariants.{Touch}
use Rattle.lines.specs.declared.place.Line.{Line}
use Rattle.lines.specs.declared.place.Line.TheVariants.{L0p1, L16, L25p1, L27p1, Down28p1}
use Rattle.lines.specs.declared.place.Place.{Place}
use Rattle.lines.specs.declared.place.Place.TheVariants.{Rest}
use Rattle.lines.specs.declared.place.Role.{Role}
use Rattle.lines.specs.declared.track.Track.{Track}
use Rattle.lines.specs.Deeds.{cells_after, finds, waiting_after}
use Rattle.lines.specs.Lines.{at_rest, deed_of, next_deed, settle}
use Rattle.calls.specs.declared.account.Account.{Account}
use Rattle.calls.specs.declared.record.Record.{Record}
use Rattle.calls.specs.declared.refusal.Refusal.{Refusal}
use Rattle.calls.specs.Accounts.{charged}
use Rattle.calls.specs.Opening.{Opens, Wrote, enlisted, open_refusal, opening_writes}
use Rattle.calls.specs.Records.{arrived, settled}
use Rattle.calls.specs.States.{State, record_of}
use Rattle.calls.specs.Steps.{Answer, Call, Calls, Verdict, after_deed, at_once, judge, line, refuse}
use Rattle.lock.specs.Promises.{CostBound}
use Rattle.lock.specs.History.{History, history}
use Rattle.lock.specs.Runs.{Made, RunWhile}
use Rattle.lock.specs.Counted.{masks_after, unit_share}
use Rattle.lock.proofs.Copies.{ChargedByUnits, deed_charged, flag, length-masks_after, opened_masks, purse_other, purse_own, touches_known, unit_share-charge}
use Rattle.lock.proofs.Costs.{Paid, Units, account_before, at_most_20, charge, other_copies, others_kept, own_copies, payer_kept, purse}
use Rattle.lock.proofs.Costs.{charged as charged_units}
use Rattle.lock.proofs.Facts.{Before, Cells, Task, seen, seen_cells}
use Rattle.lock.proofs.Holds.{Holds, at, each_other, line_moves, met, seen_at}
use Rattle.lock.proofs.Judged.{Due, Lawful, account_of_call}
use Rattle.lock.proofs.Meant.{Meant, Quiet, meant}
use Rattle.lock.proofs.Opened.{seven_of}
use Rattle.lock.proofs.Histories.{told_by_run}
use Rattle.lock.proofs.Promised.{able, first_record, new_records, no_history}
use Rattle.lock.proofs.Runs.{Able, Obeyed, call_able, call_kept}

-- An account is backed by units, at the ceiling each.

pub record Backed (top : ℕ) (a : Account) (b : Units) : Type 0 where
  pub cost : a.cost ≤ top * b.cost
  pub u : a.u ≡ b.u
  pub g : a.g ≡ b.g

backed_call : (top : ℕ) (l : Line) (a : Account) (b : Units) → Backed top a b → Backed top (account_of_call l a) (account_before l b)
backed_call top L0p1 a b h = record { cost = omega arith; u = refl; g = refl }
backed_call top L16 a b h = record { cost = omega arith; u = refl; g = refl }
backed_call top L27p1 a b h = record { cost = h.cost; u = ap (λ n. n + 1) h.u; g = h.g }
backed_call top L25p1 a b h = record { cost = h.cost; u = h.u; g = ap (λ n. n + 1) h.g }
backed_call top Down28p1 a b h = record { cost = h.cost; u = h.u; g = ap (λ n. n + 1) h.g }
backed_call top l a b h = h

times_sum : (k a b : ℕ) → k * (a + b) ≡ k * a + k * b
times_sum zero a b = omega arith
times_sum (suc k) a b = omega (arith, times_sum k a b)

backed_charge : (top share n : ℕ) (a : Account) (b : Units) → share ≤ top * n → Backed top a b → Backed top (charged a share) (charged_units b n)
backed_charge top share n a b less h = record { cost = omega (arith, times_sum top b.cost n, h.cost); u = h.u; g = h.g }

backed_arrived : (p : Place) (top : ℕ) (a : Account) (b : Units) → Backed top a b → Backed top (arrived p a) b
backed_arrived Rest top a b h = record { cost = h.cost; u = h.u; g = h.g }
backed_arrived p top a b h = h

times_less : (k a b : ℕ) → a ≤ b → k * a ≤ k * b
times_less zero a b h = omega arith
times_less (suc k) a b h = omega (arith, times_less k a b h)

-- what backs each task, where the cells, the queue, the records and the copies are so
abbrev pub Paying : List ℕ → List ℕ → List Record → List ℕ → (ℕ → Units) → Type 0
Paying cs ws rs masks units = (j : ℕ) → Paid (seen_cells cs ws) (seen_at rs j) (purse (units j) (flag masks (suc j)))

-- the units of the task at place i are these from now on
abbrev with_units : (ℕ → Units) → ℕ → Units → ℕ → Units
with_units units i b j = cond (eqb j i) b (units j)

module _ (l : Line) (C D G X P U V : ℕ) (ws : List ℕ) (rs : List Record) (i : ℕ) (h : i < length rs) (masks : List ℕ) (seven : length masks ≡ 7) (units : ℕ → Units) where
  abbrev cs : List ℕ
  cs = C ∷ D ∷ G ∷ X ∷ P ∷ U ∷ V ∷ []

  abbrev k : Track
  k = (at rs i).track

  abbrev deed : Deed
  deed = deed_of l (suc i) k

  abbrev found : Track
  found = settle l k (finds deed (suc i) cs ws)

  abbrev after : ℕ → Units
  after = with_units units i (charged_units (account_before l (units i)) (unit_share deed (suc i) masks))

  abbrev PaidBy : Task → Units → ℕ → Type 0
  PaidBy a b j = Paid (seen_cells (cells_after deed cs) (waiting_after deed (suc i) ws)) a (purse b (flag (masks_after deed (suc i) masks) (suc j)))

  line_paid : Before l (seen i k) → Holds cs ws rs → Paying cs ws rs masks units → (r : Record) → r.track ≡ found → Paying (cells_after deed cs) (waiting_after deed (suc i) ws) (set rs i r) (masks_after deed (suc i) masks) after
  line_paid b g p r is =
      let known = touches_known l (suc i) k in
      let low : 1 ≤ suc i = omega arith in
      let own = charged_units (account_before l (units i)) (charge deed (flag masks (suc i))) in
      let paid : Paid (seen_cells (cells_after deed cs) (waiting_after deed (suc i) ws)) (seen i found) (purse own (own_copies deed (flag masks (suc i)))) =
      payer_kept C D G X P U V i k.prev k.curr k.d k.x k.place k.standing (units i) (flag masks (suc i)) l k.role ws b (g.one i) (p i) in
      let with_copies : PaidBy (seen i found) own i = subst (λ m. Paid (seen_cells (cells_after deed cs) (waiting_after deed (suc i) ws)) (seen i found) m) (sym (purse_own deed (suc i) masks own seven known low)) paid in
      each_other (λ j x. PaidBy (seen j x.track) (after j) j) rs i r h (rw (is, eq-eqb i i refl, unit_share-charge deed (suc i) masks) with_copies) (λ j n.
      let apart : suc j ≢ suc i = omega arith in
      let m = met l C D G X P U V ws rs i h g (line_moves l C D G X P U V ws rs i h b g) r is j n in
      let paid : Paid (seen_cells (cells_after deed cs) (waiting_after deed (suc i) ws)) (seen_at rs j) (purse (units j) (other_copies deed (flag masks (suc j)))) =
      others_kept C D G X P U V i k.prev k.curr k.d k.x k.place k.standing (units i) (flag masks (suc i)) l k.role ws b (g.one i) (seen_at rs j) (units j) (flag masks (suc j)) m (p j) in
      let with_copies : PaidBy (seen_at rs j) (units j) j = subst (λ m. Paid (seen_cells (cells_after deed cs) (waiting_after deed (suc i) ws)) (seen_at rs j) m) (sym (purse_other deed (suc i) (suc j) masks (units j) seven known low (omega arith) apart)) paid in
      rw (ne_eqb j i n) with_copies)

pub record Costed (top : ℕ) (s : State) (masks : List ℕ) : Type 0 where
  pub seven : length masks ≡ 7
  pub units : ℕ → Units
  pub paying : Paying s.cells s.waiting s.records masks units
  pub backed : (j : ℕ) → Backed top (at s.records j).account (units j)

line_costed : (top : ℕ) (s : State) (t : ℕ) (r : Record) (share : ℕ) (masks masks' : List ℕ) → Lawful s → Due s t r → share ≤ top * unit_share (next_deed t r.track) t masks → masks' ≡ masks_after (next_deed t r.track) t masks → Costed top s masks →
    Costed top (after_deed t r (next_deed t r.track) share s) masks'
line_costed top s t r share masks masks' g d less left c =
    let i = t - 1 in
    let k = (record_of s t).track in
    let rs = s.records in
    let l = d.next in
    let due = next_deed t r.track in
    let y = settled r (finds due t s.cells s.waiting) share in
    let h : i < length rs = omega (arith, d.low, d.high) in
    let is : suc i ≡ t = omega (arith, d.low) in
    let same : due ≡ deed_of l t k = d.leads.deed t in
    let own : due ≡ deed_of l (suc i) k = same ∙ ap (λ n. deed_of l n k) (sym is) in
    let steps : y.track ≡ settle l k (finds (deed_of l (suc i) k) (suc i) s.cells s.waiting) =
    d.leads.steps (finds due t s.cells s.waiting) ∙ ap (λ p. settle l k (finds p t s.cells s.waiting)) own ∙ ap (λ n. settle l k (finds (deed_of l (suc i) k) n s.cells s.waiting)) (sym is) in
    let P : List ℕ → Type 0 = λ xs. y.track ≡ settle l k (finds (deed_of l (suc i) k) (suc i) xs s.waiting) → Holds xs s.waiting rs → Paying xs s.waiting rs masks c.units →
    Paying (cells_after (deed_of l (suc i) k) xs) (waiting_after (deed_of l (suc i) k) (suc i) s.waiting) (set rs i y) (masks_after (deed_of l (suc i) k) (suc i) masks) (with_units c.units i (charged_units (account_before l (c.units i)) (unit_share (deed_of l (suc i) k) (suc i) masks))) in
    let paid = subst P (sym (seven_of s.cells g.holds.seven)) (λ e h' p. line_paid l (get_or s.cells 0 0) (get_or s.cells 1 0) (get_or s.cells 2 0) (get_or s.cells 3 0) (get_or s.cells 4 0) (get_or s.cells 5 0) (get_or s.cells 6 0) s.waiting rs i h masks c.seven c.units d.leads.before h' p y e) steps g.holds c.paying in
    let Q : Deed → ℕ → Type 0 = λ p n. Paying (cells_after p s.cells) (waiting_after p n s.waiting) (set rs i y) (masks_after p n masks) (with_units c.units i (charged_units (account_before l (c.units i)) (unit_share p n masks))) in
    let paying : Q due t = subst (λ p. Q p t) (sym own) (subst (Q (deed_of l (suc i) k)) is paid) in
    record {
      seven = ap length left ∙ length-masks_after due t masks ∙ c.seven;
      units = with_units c.units i (charged_units (account_before l (c.units i)) (unit_share due t masks));
      paying = subst (λ ms. Paying (cells_after due s.cells) (waiting_after due t s.waiting) (set rs i y) ms (with_units c.units i (charged_units (account_before l (c.units i)) (unit_share due t masks)))) (sym left) paying;
      backed = line_backed top rs i r share (unit_share due t masks) y l c.units h d.account less refl c.backed;
    }
  where
    line_backed : (top : ℕ) (rs : List Record) (i : ℕ) (r : Record) (share n : ℕ) (y : Record) (l : Line) (units : ℕ → Units) → i < length rs → r.account ≡ account_of_call l (at rs i).account → share ≤ top * n → y.account ≡ arrived y.track.place (charged r.account share) →
        ((j : ℕ) → Backed top (at rs j).account (units j)) → (j : ℕ) → Backed top (at (set rs i y) j).account (with_units units i (charged_units (account_before l (units i)) n) j)
    line_backed top rs i r share n y l units h account less is backed =
        let new = charged_units (account_before l (units i)) n in
        let before : Backed top r.account (account_before l (units i)) = subst (λ a. Backed top a (account_before l (units i))) (sym account) (backed_call top l (at rs i).account (units i) (backed i)) in
        let after : Backed top y.account new = subst (λ a. Backed top a new) (sym is) (backed_arrived y.track.place top (charged r.account share) new (backed_charge top share n r.account (account_before l (units i)) less before)) in
        each_other (λ j x. Backed top x.account (with_units units i new j)) rs i y h (rw (eq-eqb i i refl) after) (λ j other. rw (ne_eqb j i other) (backed j))

-- a task that never began has paid nothing
first_paid : (c : Cells) (j : ℕ) (o : Role) (copies : ℕ → ℕ) → Paid c (seen j (at_rest o)) (purse (record { cost = 0; u = 0; g = 0 }) copies)
first_paid c j o copies = record { bound = omega arith; line_6 = λ h p q. omega arith; line_22 = λ h p q. omega arith; line_22p2 = λ h p q. omega arith }

-- Any memory that charges by units, at its ceiling each.
module _ {M : Type 0} (does : Doing M) (masks : M → List ℕ) (top : M → ℕ)
    (law : (m n : M) (t : ℕ) (op : Operation) (share : ℕ) → does m t op share n → ChargedByUnits (Touch op) t (top m) (masks m) share (top n) (masks n)) (limit ceiling : ℕ) where
  pub record Bounded (s : State) (m : M) : Type 0 where
    pub able : Able limit s
    pub costed : Costed ceiling s (masks m)
    pub same : top m ≡ ceiling

  same_costed : (s z : State) (ms : List ℕ) (a : Answer) → Quiet s a z → Costed ceiling s ms → Costed ceiling z ms
  same_costed s z ms a q c =
      record {
        seven = c.seven;
        units = c.units;
        paying = λ j. rw (q.cells, q.waiting, q.tracks.each j) (c.paying j);
        backed = λ j. subst (λ x. Backed ceiling x (c.units j)) (sym (q.accounts j)) (c.backed j);
      }

  obeyed_costed : (v : Verdict) (s z : State) (m n : M) (a : Answer) → Meant s v → Bounded s m → Obeyed does v s m a z n → Costed ceiling z (masks n) × (top n ≡ ceiling)
  obeyed_costed (refuse e) s z m n a h b (x, y, same) = rw (y, same) (b.costed, b.same)
  obeyed_costed (line t r) s z m n a h b (x, (share, y, shares)) =
      let d = next_deed t r.track in
      let charges = deed_charged does masks top law d m n t share shares in
      let less : share ≤ ceiling * unit_share d t (masks m) = subst (λ k. share ≤ k * unit_share d t (masks m)) b.same charges.within in
      rw y (line_costed ceiling s t r share (masks m) (masks n) b.able.lawful h less charges.left b.costed, charges.same_ceiling ∙ b.same)
  obeyed_costed (at_once w q) s z m n a h b (x, y, same) = rw (y, same) (same_costed s q (masks m) w h b.costed, b.same)

  pub call_bounded : (c : Call) (s z : State) (m n : M) (a : Answer) → Bounded s m → Calls does limit c s m a z n → Bounded z n
  call_bounded c s z m n a b h =
      let k = obeyed_costed (judge c s) s z m n a (meant c s b.able.lawful) b (call_kept does limit c s z m n a b.able h).obeyed in
      record { able = call_able does limit c s z m n a b.able h; costed = k.0; same = k.1 }

  pub run_bounded : (P : State → Type 0) (es : List Made) (s z : State) (m n : M) → Bounded s m → RunWhile does limit P es s m z n → Bounded z n
  run_bounded P [] s z m n b (p, same, k) = rw (same, k) b
  run_bounded P (e ∷ es) s z m n b (p, (y, k, call, run)) = run_bounded P es y z k n (call_bounded e.call s y m k e.answer b call) run

  pub bound : (z : State) (n : M) → Bounded z n → (t : ℕ) → (record_of z t).account.cost ≤ ceiling * (20 + 5 * (record_of z t).account.u + 2 * (record_of z t).account.g)
  bound z n b t =
      let i = t - 1 in
      let r = record_of z t in
      let back = b.costed.backed i in
      let paid = b.costed.paying i in
      let small = at_most_20 r.track.role (seen_at z.records i).rank in
      let few : (b.costed.units i).cost ≤ 20 + 5 * r.account.u + 2 * r.account.g = omega (arith, paid.bound, small, back.u, back.g) in
      omega (arith, back.cost, times_less ceiling _ _ few)

  wrote_top : (ops : List Operation) (m n : M) → Wrote does m ops n → top n ≡ top m
  wrote_top [] m n w = ap top w
  wrote_top (op ∷ ops) m n (k, share, d, w) = wrote_top ops k n w ∙ (law m k 1 op share d).same_ceiling

  first_costed : (s : State) (ms : List ℕ) (roles : List ℕ) → s.records ≡ map enlisted roles → ms ≡ zeros → Costed ceiling s ms
  first_costed s ms roles new e =
      record {
        seven = ap length e;
        units = λ j. record { cost = 0; u = 0; g = 0 };
        paying = λ j. let (o, is) = first_record roles j in rw (new, is) (first_paid (seen_cells s.cells s.waiting) j o (flag ms (suc j)));
        backed = λ j. let (o, is) = first_record roles j in rw (new, is) (record { cost = omega arith; u = refl; g = refl });
      }

  pub opened_bounded : (s : State) (m n : M) (roles : List ℕ) → s.records ≡ map enlisted roles → Able limit s → top m ≡ ceiling → length (masks m) ≡ 7 → Wrote does m opening_writes n → Bounded s n
  opened_bounded s m n roles new g e seven w =
      let none = opened_masks does masks (λ m n t op share d. (law m n t op share d).left) m n seven w in
      record { able = g; costed = first_costed s (masks n) roles new none; same = wrote_top opening_writes m n w ∙ e }

module _ {M : Type 0} (does : Doing M) (masks : M → List ℕ) (top : M → ℕ)
    (law : (m n : M) (t : ℕ) (op : Operation) (share : ℕ) → does m t op share n → ChargedByUnits (Touch op) t (top m) (masks m) share (top n) (masks n)) (limit : ℕ) where
  -- where opening is obeyed the cost bound holds, for the ceiling that the memory has
  pub opened_cost : (o : Option Refusal) (s z : State) (m n : M) (roles : List ℕ) (r : Result (Unit {0}) Refusal) → open_refusal limit (top m) s roles ≡ o → length (masks m) ≡ 7 → Opens does o s m roles r z n →
      IfOk r (λ _. CostBound does limit z n (top n))
  opened_cost None s z m n roles r none seven (ok, w, is) =
      let ceiling = top m in
      let new = new_records limit ceiling s z roles none is in
      let open_able = able limit ceiling s z roles none is in
      let first = opened_bounded does masks top law limit ceiling z m n roles new open_able refl seven w in
      let same : top n ≡ top m = wrote_top does masks top law limit ceiling opening_writes m n w in
      subst (λ x. IfOk x (λ _. CostBound does limit z n (top n))) (sym ok) (λ es y p run t low.
      let k = told_by_run does limit z (no_history z roles new) open_able _ es y n p run t low in
      let paid = bound does masks top law limit ceiling y p (run_bounded does masks top law limit ceiling _ es z y n p first run) t in
      subst (λ c. (record_of y t).account.cost ≤ c * (20 + 5 * (history t es).upgrades + 2 * (history t es).downgrades)) (sym same)
      (subst (λ (h : History). (record_of y t).account.cost ≤ top m * (20 + 5 * h.upgrades + 2 * h.downgrades)) k paid))
  opened_cost (Some e) s z m n roles r none seven (err, same, k) = subst (λ x. IfOk x (λ _. CostBound does limit z n (top n))) (sym err) tt
