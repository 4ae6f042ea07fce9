-- A lock just opened keeps every promise.
use Rattle.std.proofs.Common.{◌≡◌, ℕ, ◌-◌, ◌<◌, ◌≤◌, ◌≢◌, ◌⊎◌, ◌↔◌, true, not, eqb, leb, List, [], ◌∷◌, length, get_or, map, ltb, IsOk, Some, None, Option, Result, sym, refl, ap, ◌∙◌, subst, inl, inr, arith}
use Rattle.std.proofs.lemmas.Bool.{eqb-true, false≢true, le-leb, leb-true}
use Rattle.std.proofs.lemmas.List.Elements.{All-from_get_or, All-get_or}
use Rattle.std.proofs.lemmas.List.Sums.{AllPass-from_list_all, list_all-from_AllPass}
use Rattle.std.proofs.Math.ListN.{get_or-map, length-map}
use Rattle.memory.specs.Calls.{Doing}
use Rattle.lines.specs.declared.place.Role.{Role}
use Rattle.lines.specs.declared.place.Role.TheVariants.{Reader, Writer}
use Rattle.lines.specs.declared.place.Place.{Place}
use Rattle.lines.specs.declared.place.Place.TheVariants.{Inside}
use Rattle.lines.specs.declared.place.Right.{Right}
use Rattle.lines.specs.declared.place.Right.TheVariants.{Writing}
use Rattle.lines.specs.declared.place.Standing.{Standing}
use Rattle.lines.specs.declared.place.Standing.TheVariants.{Normal, Upgraded}
use Rattle.lines.specs.declared.track.Track.{Track}
use Rattle.lines.specs.Rights.{right_at, right_inside}
use Rattle.lines.specs.Classes.{has_upgraded, is_counted}
use Rattle.lines.specs.Lines.{at_rest}
use Rattle.lines.specs.Roles.{is_role, role_of}
use Rattle.memory.specs.declared.interface.Memory.{Ghosts as MemoryGhosts}
use Rattle.queue.specs.declared.interface.Queue.{Ghosts as QueueGhosts}
use Rattle.calls.specs.declared.refusal.Refusal.{Refusal}
use Rattle.lock.specs.declared.locks.Lock.{Lock}
use Rattle.lock.specs.MayOpen.{MayOpen}
use Rattle.lock.specs.View.{open_refused, records_of, view}
use Rattle.calls.specs.declared.refusal.Refusal.TheVariants.{Ceiling, Limit, Opened, Queued, Role as NotRole, Roles}
use Rattle.calls.specs.declared.rule.Rule.{Rule}
use Rattle.calls.specs.Rules.{rule_number}
use Rattle.calls.specs.Census.{tasks_that}
use Rattle.calls.specs.Opening.{Opens, are_roles, enlisted, open_refusal, opened_to, opening_cells}
use Rattle.calls.specs.Records.{fresh, in_order}
use Rattle.calls.specs.States.{State, record_of}
use Rattle.calls.specs.Steps.{row_answer}
use Rattle.calls.proofs.Obeyed.{yes}
use Rattle.calls.proofs.Sound.{fresh_in_order}
use Rattle.lock.specs.History.{nothing_yet}
use Rattle.lock.specs.Model.{model_run, unpaid, unpaid_record}
use Rattle.lock.specs.Promises.{Promised, Rights, Starts}
use Rattle.lock.specs.Runs.{Made, Run}
use Rattle.lock.proofs.Decided.{decided}
use Rattle.lock.proofs.Facts.{OneTask, TwoTasks, seen, seen_cells}
use Rattle.lock.proofs.Charged.{charged_account}
use Rattle.lock.proofs.Histories.{RowOf, call_left, counts, granted, may_read, passes, ran}
use Rattle.lock.proofs.Holds.{Holds, at}
use Rattle.lock.proofs.Judged.{Lawful, pass_there}
use Rattle.lock.proofs.Measured.{reads}
use Rattle.lock.proofs.Opened.{each_role}
use Rattle.lock.proofs.RowRuns.{of_row, read_told, row_still}
use Rattle.lock.proofs.Recorded.{told}
use Rattle.lock.proofs.Runs.{Able, call_kept, excluded, no_right_beside, run_able, section_with_right}
use Rattle.lock.proofs.SoundRuns.{sound, unbroken}

pub first_record : (roles : List ℕ) (i : ℕ) → (o : Role) × (at (map enlisted roles) i ≡ fresh o)
first_record roles i = (role_of (get_or roles i 0), get_or-map enlisted roles i 0)

pub no_history : (s : State) (roles : List ℕ) → s.records ≡ map enlisted roles → (t : ℕ) → told (record_of s t) ≡ nothing_yet
no_history s roles new t = let (o, is) = first_record roles (t - 1) in ap (λ rs. told (at rs (t - 1))) new ∙ ap told is

-- Rights by place, role and standing.

inside_at : (p : Place) (o : Role) (s : Standing) → ((w : Right) × (right_at p o s ≡ Some w)) ↔ p ≡ Inside
inside_at Inside o s = (λ h. refl, λ e. (right_inside o s, refl))
inside_at p o s = (λ h. let k = h.1 in cc, λ e. cc)

writing_at : (p : Place) (o : Role) (s : Standing) → right_at p o s ≡ Some Writing → (p ≡ Inside) × ((s ≡ Upgraded) ⊎ ((o ≡ Writer) × (s ≡ Normal)))
writing_at Inside o Upgraded h = (refl, inl refl)
writing_at Inside Writer Normal h = (refl, inr (refl, refl))
writing_at p o s h = cc

may_write_at : (p : Place) (o : Role) (s : Standing) → (p ≡ Inside) × ((s ≡ Upgraded) ⊎ ((o ≡ Writer) × (s ≡ Normal))) → right_at p o s ≡ Some Writing
may_write_at p o s (e, inl k) = ap (λ q. right_at q o s) e ∙ ap (right_at Inside o) k
may_write_at p o s (e, inr (j, k)) = ap (λ q. right_at q o s) e ∙ ap (λ r. right_at Inside r s) j ∙ ap (right_at Inside Writer) k

rights : (r : Track) → Rights r
rights r = record { inside = inside_at r.place r.role r.standing; writing = (writing_at r.place r.role r.standing, may_write_at r.place r.role r.standing) }

-- each rule has a number
numbered : (k : Rule) → rule_number k ≢ 0
numbered k h = grind arith

module _ {M : Type 0} (does : Doing M) (limit : ℕ) (s : State) (m : M) (number : ℕ) (rows roles : List ℕ) where
  pub promised : Starts number rows roles s → unpaid s ≡ s → Able limit s → Promised does limit s m number rows roles
  promised starts free g =
      let able = λ (es : List Made) (z : State) (n : M) (run : Run does limit es s m z n). run_able does limit _ es s z m n g run in
      let first = no_history s roles starts.4 in
      record {
        starts = starts;
        lawful_rights = λ es z n run t. rights (record_of z t).track;
        exclusion = λ es z n run. (section_with_right z, λ t u low low' apart w. let k = (able es z n run).lawful in (excluded z t u k low low' apart w, no_right_beside z t u k low low' apart w));
        measured_rows = λ es z n run w k t row a y p needs call.
            let may = may_read does limit s first g _ es z m n run w k t row needs in
            reads a _ ((read_told does limit z y n p w k t row a may call).0 ∙ ap row_answer ((ran does limit _ es s z m n g run).row row));
        steady_rows = λ es z n run w k t row a z' n' call of ds y p during v j b y' p' call' of'.
            let g1 = able es z n run in
            let may = of_row does limit z z' n n' w k t row a call of in
            let first = read_told does limit z z' n n' w k t row a may call in
            let second = read_told does limit y y' p p' v j t row b (of_row does limit y y' p p' v j t row b call' of') call' in
            let still = row_still does limit row t ds z' y n' p (subst (Able limit) (sym first.1) g1) (pass_there z w k t g1.lawful may.0).low during in
            second.0 ∙ ap row_answer (still ∙ ap (RowOf row) first.1) ∙ sym first.0;
        obeyed_calls = λ es z n run c a y p call. granted does limit s first g _ es z m n run c a y p call;
        passes = λ es z n run t low. passes does limit s first g _ es z m n run t low;
        counted_accounts = λ es z n run t low. counts does limit s first g _ es z m n run t low;
        charged_accounts = λ es z n run c a y p call. charged_account does limit c z y n p a (able es z n run) call;
        own_refusals = λ es z n run c a y p call. (call_kept does limit c z y n p a (able es z n run) call).own;
        refused_calls = λ es z n run c a y p call o. (call_left does limit c z y n p a (able es z n run) call).refused o;
        one_line = λ es z n run c a y p call. (call_left does limit c z y n p a (able es z n run) call).did;
        soundness = λ es z n run. let k = (able es z n run).lawful in (sound z k, unbroken z k, numbered);
        lines_decide = λ es z n run. decided does limit _ es s z m n g run ∙ ap (model_run es) free;
      }

-- The state of a lock just opened.

none_counted : (roles : List ℕ) → tasks_that is_counted (map enlisted roles) ≡ 0
none_counted [] = refl
none_counted (b ∷ bs) = none_counted bs

none_upgraded : (roles : List ℕ) → tasks_that has_upgraded (map enlisted roles) ≡ 0
none_upgraded [] = refl
none_upgraded (b ∷ bs) = none_upgraded bs

one_at_rest : (i : ℕ) (o : Role) → OneTask (seen_cells opening_cells []) (seen i (at_rest o))
one_at_rest i Reader = grind arith
one_at_rest i Writer = grind arith

two_at_rest : (i j : ℕ) (o p : Role) → TwoTasks (seen_cells opening_cells []) (seen i (at_rest o)) (seen j (at_rest p))
two_at_rest i j o p = grind arith

first_holds : (roles : List ℕ) → 1 ≤ length roles → Holds opening_cells [] (map enlisted roles)
first_holds roles some =
    record {
      seven = refl;
      count = sym (none_counted roles);
      holders = none_upgraded roles;
      x_cell = omega (arith, length-map roles enlisted);
      x_register = λ i. rw (first_record roles i).1 (omega arith);
      one = λ i. let (o, is) = first_record roles i in rw is (one_at_rest i o);
      pair = λ i j n. let (o, is) = first_record roles i in let (p, is') = first_record roles j in rw (is, is') (two_at_rest i j o p);
      waits = tt;
      distinct = tt;
    }

first_free : (roles : List ℕ) → map unpaid_record (map enlisted roles) ≡ map enlisted roles
first_free [] = refl
first_free (b ∷ bs) = ap (λ ys. enlisted b ∷ ys) (first_free bs)

no_one_waits : (ws : List ℕ) → length ws ≡ 0 → ws ≡ []
no_one_waits [] e = refl
no_one_waits (x ∷ xs) e = absurd (omega arith)

-- what opening asks, by the questions themselves
pub record Asked (limit top : ℕ) (s : State) (roles : List ℕ) : Type 0 where
  pub closed : not s.opened ≡ true
  pub some : 1 ≤ length roles
  pub few : length roles ≤ 64
  pub each : are_roles roles ≡ true
  pub two : 2 ≤ limit
  pub fits : length roles ≤ limit
  pub ceiling : top ≤ 1000
  pub empty : s.waiting ≡ []

pub asked : (limit ceiling : ℕ) (s : State) (roles : List ℕ) → open_refusal limit ceiling s roles ≡ None → Asked limit ceiling s roles
asked limit ceiling s roles none =
    let n = length roles in
    let q1 = yes (not s.opened) Opened _ none in
    let q2 = yes (leb 1 n) Roles _ q1.1 in
    let q3 = yes (leb n 64) Roles _ q2.1 in
    let q4 = yes (are_roles roles) NotRole _ q3.1 in
    let q5 = yes (leb 2 limit) Limit _ q4.1 in
    let q6 = yes (leb n limit) Limit _ q5.1 in
    let q7 = yes (leb ceiling 1000) Ceiling _ q6.1 in
    let q8 = yes (eqb (length s.waiting) 0) Queued None q7.1 in
    record { closed = q1.0; some = leb-true 1 n q2.0; few = leb-true n 64 q3.0; each = q4.0; two = leb-true 2 limit q5.0; fits = leb-true n limit q6.0; ceiling = leb-true ceiling 1000 q7.0; empty = no_one_waits s.waiting (eqb-true (length s.waiting) 0 q8.0) }

module _ (limit ceiling : ℕ) (s z : State) (roles : List ℕ) (none : open_refusal limit ceiling s roles ≡ None) (is : z ≡ opened_to roles s) where
  abbrev first : State
  first = record { number = s.number; opened = true; cells = opening_cells; waiting = []; records = map enlisted roles; table = s.table }

  starts_first : z ≡ first
  starts_first = is ∙ ap (λ ws. record { number = s.number; opened = true; cells = opening_cells; waiting = ws; records = map enlisted roles; table = s.table }) (asked limit ceiling s roles none).empty

  -- it was so before
  pub starts : Starts s.number s.table roles z
  starts = subst (Starts s.number s.table roles) (sym starts_first) (refl, refl, refl, refl, refl)

  pub new_records : z.records ≡ map enlisted roles
  new_records = starts.4

  pub able : Able limit z
  able =
      let k = asked limit ceiling s roles none in
      let lawful : Lawful first = record { opened = refl; some = omega (arith, length-map roles enlisted, k.some); few = omega (arith, length-map roles enlisted, k.few); ordered = λ i. let (o, is) = first_record roles i in ap in_order is ∙ fresh_in_order o; holds = first_holds roles k.some } in
      subst (Able limit) (sym starts_first) (record { lawful = lawful; fits = omega (arith, length-map roles enlisted, k.fits); two = k.two })

  free : unpaid z ≡ z
  free = subst (λ (x : State). unpaid x ≡ x) (sym starts_first) (ap (λ rs. record { number = s.number; opened = true; cells = opening_cells; waiting = []; records = rs; table = s.table }) (first_free roles))

  pub opened_promises : {M : Type 0} (does : Doing M) (m : M) → Promised does limit z m s.number s.table roles
  opened_promises does m = promised does limit z m s.number s.table roles starts free able

-- When open is obeyed.

-- each byte is a role's
role_bytes : (roles : List ℕ) → are_roles roles ≡ true → (i : ℕ) → i < length roles → (get_or roles i 0 ≡ 82) ⊎ (get_or roles i 0 ≡ 87)
role_bytes roles h i l = role_byte _ (All-get_or (λ b. is_role b ≡ true) roles i 0 l (AllPass-from_list_all is_role roles (each_role roles ∙ h)))
  where
    role_byte : (b : ℕ) → is_role b ≡ true → (b ≡ 82) ⊎ (b ≡ 87)
    role_byte b h = grind arith

all_roles : (roles : List ℕ) → ((i : ℕ) → i < length roles → (get_or roles i 0 ≡ 82) ⊎ (get_or roles i 0 ≡ 87)) → are_roles roles ≡ true
all_roles roles h = sym (each_role roles) ∙ list_all-from_AllPass is_role roles (All-from_get_or (λ b. is_role b ≡ true) roles 0 (λ i l. a_role _ (h i l)))
  where
    a_role : (b : ℕ) → (b ≡ 82) ⊎ (b ≡ 87) → is_role b ≡ true
    a_role b (inl e) = ap is_role e
    a_role b (inr e) = ap is_role e

module _ {M Q : Type 0} (mem : MemoryGhosts M) (que : QueueGhosts Q) (l : Lock M Q) (roles : List ℕ) where
  may_open : open_refused mem que l roles ≡ None → MayOpen mem que l roles
  may_open none =
      let k = asked mem.limit (mem.top l.memory) (view mem que l) roles none in
      record { closed = no_task (length (records_of l.records)) k.closed; some = k.some; few = k.few; each = role_bytes roles k.each; two = k.two; fits = k.fits; ceiling = k.ceiling; empty = k.empty }
    where
      no_task : (n : ℕ) → not (ltb 0 n) ≡ true → n ≡ 0
      no_task n h = grind arith

  open_clear : MayOpen mem que l roles → open_refused mem que l roles ≡ None
  open_clear may =
      let n = length roles in
      rw (may.closed, may.empty, le-leb 1 n may.some, le-leb n 64 may.few, all_roles roles may.each, le-leb 2 mem.limit may.two, le-leb n mem.limit may.fits, le-leb (mem.top l.memory) 1000 may.ceiling) refl

  -- open is obeyed exactly where it has what it needs
  pub opened_where : (o : Option Refusal) (z : State) (n : M) (r : Result (Unit {0}) Refusal) → open_refused mem que l roles ≡ o → Opens mem.does o (view mem que l) l.memory roles r z n → IsOk r ↔ MayOpen mem que l roles
  opened_where None z n r none (ok, w, is) = (λ h. may_open none, λ h. subst IsOk (sym ok) refl)
  opened_where (Some e) z n r some (err, same, k) = (λ h. absurd (false≢true (subst IsOk err h)), λ h. let k = sym some ∙ open_clear h in cc)
