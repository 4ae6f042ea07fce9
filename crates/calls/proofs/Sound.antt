-- Each call and each line keeps a record in order.
use Rattle.std.proofs.Common.{◌≡◌, ℕ, ◌+◌, ◌*◌, ◌<◌, ◌≤◌, Bool, true, false, cond, ◌||◌, T, ltb, leb, Some, None, Option, sym, refl, ap, ◌∙◌, zero-le, arith, lit≤, leb→le}
use Rattle.std.proofs.lemmas.Bool.{and_parts, and_from, leb-true, le-leb, lt-ltb, ltb-true}
use Rattle.std.proofs.lemmas.Bool.Decides.{nat_tests}
use Rattle.lines.specs.declared.deed.Found.{Found}
use Rattle.lines.specs.declared.place.Line.{Line}
use Rattle.lines.specs.declared.place.Line.TheVariants.{L0p1, L0p2, L1, L2, L3, L4, L6, L7, L8, L9, L10, L11, L12, L13, L14, L15, L16, L16p1, L17, L18, L19, L20, L21, L22, L22p1, L22p2, L23, L25p1, L25p2, L25p3, L26p1, L27p1, L27p2, L27p3, L27p4, L27p5, Down28p1, Down28p2, L28p1, L28p2, L29p2, L32p1}
use Rattle.lines.specs.declared.place.Place.{Place}
use Rattle.lines.specs.declared.place.Place.TheVariants.{Rest, Inside, Next}
use Rattle.lines.specs.declared.place.Right.{Right}
use Rattle.lines.specs.declared.place.Right.TheVariants.{Reading, Writing}
use Rattle.lines.specs.declared.place.Role.{Role}
use Rattle.lines.specs.declared.place.Role.TheVariants.{Reader, Writer}
use Rattle.lines.specs.declared.place.Standing.{Standing}
use Rattle.lines.specs.declared.place.Standing.TheVariants.{Normal, Upgraded, Downgraded}
use Rattle.lines.specs.declared.track.Track.{Track}
use Rattle.lines.specs.Lines.{goes, comes_in, ends, ends_as, leaves, settle, stepped, stepped_at}
use Rattle.lines.specs.Numbers.{code}
use Rattle.lines.specs.Rights.{is_right, right_at, right_inside, right_of, same_right}
use Rattle.lines.specs.Starts.{begin_line, downgrade_line, leave_line}
use Rattle.calls.specs.declared.account.Account.{Account}
use Rattle.calls.specs.declared.record.Record.{Record}
use Rattle.calls.specs.Accounts.{charged}
use Rattle.calls.specs.declared.refusal.Refusal.{Refusal}
use Rattle.calls.specs.declared.refusal.Refusal.TheVariants.{Finished, OtherRight, Upgrades}
use Rattle.calls.specs.Questions.{advance_refusal, advance_refusal_at, begin_refusal, begin_refusal_at, ask, out_for, take_refusal, upgrade_refusal}
use Rattle.calls.specs.Records.{arrived, begun, changes_fit, downgrading, fresh, leaving, writing_ahead, ahead_at, ahead_line, finishes_fit, pass_fits, rests_at, settled, in_order, upgrading, with_out}

-- The parts of what a record keeps.

pub record Sound (r : Record) : Type 0 where
  pub finishes : finishes_fit r.track.place r.account ≡ true
  pub changes : changes_fit (writing_ahead r.track) r.account ≡ true
  pub pass : pass_fits (right_of r.track) r.out ≡ true

pub parts : (r : Record) → in_order r ≡ true → Sound r
unfolding in_order
parts r h =
    let first = and_parts _ _ h in
    let others = and_parts _ _ first.1 in
    record { finishes = first.0; changes = others.0; pass = others.1 }

pub whole : (r : Record) → Sound r → in_order r ≡ true
unfolding in_order
whole r s = and_from _ _ s.finishes (and_from _ _ s.changes s.pass)

pub fresh_in_order : (o : Role) → in_order (fresh o) ≡ true
unfolding in_order
fresh_in_order Reader = refl
fresh_in_order Writer = refl

-- A line gives nobody a downgrade that was not open to it before.

abbrev weight : Bool → ℕ
weight b = cond b 1 0

light : (b : Bool) → weight b ≤ 1
light true = lit≤ tt
light false = lit≤ tt

goes_on : (l n : Line) → T (leb (weight (ahead_line Reader (code n))) (weight (ahead_line Reader (code l)))) →
    T (leb (weight (ahead_line Writer (code n))) (weight (ahead_line Writer (code l)))) → (o : Role) → weight (ahead_line o (code n)) ≤ weight (ahead_line o (code l))
goes_on l n a b Reader = leb→le _ _ a
goes_on l n a b Writer = leb→le _ _ b

enters : (l : Line) → T (leb 1 (weight (ahead_line Writer (code l)))) → (o : Role) → weight (same_right (right_inside o Normal) Writing) ≤ weight (ahead_line o (code l))
enters l a Reader = zero-le
enters l a Writer = leb→le _ _ a

ends_so : (l : Line) → T (leb (weight (ahead_line Reader 60)) (weight (ahead_line Reader (code l)))) →
    T (leb (weight (ahead_line Writer 60)) (weight (ahead_line Writer (code l)))) → (o : Role) (r : Track) → weight (writing_ahead (ends_as o r)) ≤ weight (ahead_line r.role (code l))
ends_so l a b Writer r = goes_on l L6 a b r.role
ends_so l a b Reader r = zero-le

upgrading_may : (l : Line) → T (leb 1 (weight (ahead_line Reader (code l)))) → T (leb 1 (weight (ahead_line Writer (code l)))) → (o : Role) (x : Bool) → weight x ≤ weight (ahead_line o (code l))
upgrading_may l a b Reader x = let h = leb→le _ _ a in let k = light x in omega arith
upgrading_may l a b Writer x = let h = leb→le _ _ b in let k = light x in omega arith

leaves_so : (o : Role) (p : Place) (s : Standing) (a b d x : ℕ) → weight (writing_ahead (leaves o (record { role = o; place = p; standing = s; prev = a; curr = b; d = d; x = x }))) ≤ weight (ahead_line o 292)
leaves_so Reader p s a b d x = lit≤ tt
leaves_so Writer p s a b d x = lit≤ tt

either : {n : ℕ} (b : Bool) (x y : Track) → weight (writing_ahead x) ≤ n → weight (writing_ahead y) ≤ n → weight (writing_ahead (cond b x y)) ≤ n
either true x y h k = h
either false x y h k = k

may_step : (l : Line) (r : Track) (f : Found) → weight (writing_ahead (settle l r f)) ≤ weight (ahead_line r.role (code l))
may_step L0p1 r f = goes_on L0p1 L0p2 tt tt r.role
may_step L0p2 r f = either _ (goes r L1) (goes r L0p2) (goes_on L0p2 L1 tt tt r.role) (goes_on L0p2 L0p2 tt tt r.role)
may_step L1 r f = goes_on L1 L2 tt tt r.role
may_step L2 r f = goes_on L2 L3 tt tt r.role
may_step L3 r f = goes_on L3 L4 tt tt r.role
may_step L4 r f = goes_on L4 L9 tt tt r.role
may_step L6 r f = either _ (comes_in r Normal) (goes r L6) (enters L6 tt r.role) (goes_on L6 L6 tt tt r.role)
may_step L7 r f = goes_on L7 L8 tt tt r.role
may_step L8 r f = goes_on L8 L32p1 tt tt r.role
may_step L9 r f = goes_on L9 L10 tt tt r.role
may_step L10 r f = either _ (ends r) (goes r L11) (ends_so L10 tt tt r.role r) (goes_on L10 L11 tt tt r.role)
may_step L11 r f = either _ (goes r L12) (ends r) (goes_on L11 L12 tt tt r.role) (ends_so L11 tt tt r.role r)
may_step L12 r f = either _ (ends r) (goes r L13) (ends_so L12 tt tt r.role r) (goes_on L12 L13 tt tt r.role)
may_step L13 r f = either _ (goes r L14) (ends r) (goes_on L13 L14 tt tt r.role) (ends_so L13 tt tt r.role r)
may_step L14 r f = either _ (goes r L15) (ends r) (goes_on L14 L15 tt tt r.role) (ends_so L14 tt tt r.role r)
may_step L15 r f = ends_so L15 tt tt r.role r
may_step L16 r f = goes_on L16 L16p1 tt tt r.role
may_step L16p1 r f = goes_on L16p1 L17 tt tt r.role
may_step L17 r f = goes_on L17 L18 tt tt r.role
may_step L18 r f = goes_on L18 L19 tt tt r.role
may_step L19 r f = either _ (goes r L21) (goes r L20) (goes_on L19 L21 tt tt r.role) (goes_on L19 L20 tt tt r.role)
may_step L20 r f = goes_on L20 L21 tt tt r.role
may_step L21 r f = either _ (goes r L22) (goes r L22p1) (goes_on L21 L22 tt tt r.role) (goes_on L21 L22p1 tt tt r.role)
may_step L22 r f = either _ (goes r L22p1) (goes r L22) (goes_on L22 L22p1 tt tt r.role) (goes_on L22 L22 tt tt r.role)
may_step L22p1 r f = either _ (goes r L22p2) (comes_in r Normal) (goes_on L22p1 L22p2 tt tt r.role) (enters L22p1 tt r.role)
may_step L22p2 r f = either _ (comes_in r Normal) (goes r L22p2) (enters L22p2 tt r.role) (goes_on L22p2 L22p2 tt tt r.role)
may_step L23 r f = goes_on L23 L9 tt tt r.role
may_step L25p1 r f = goes_on L25p1 L25p2 tt tt r.role
may_step L25p2 r f = goes_on L25p2 L25p3 tt tt r.role
may_step L25p3 r f = zero-le
may_step L26p1 r f = goes_on L26p1 L32p1 tt tt r.role
may_step L27p1 r f = either _ (comes_in r r.standing) (goes r L27p2) (upgrading_may L27p1 tt tt r.role (writing_ahead (comes_in r r.standing))) (goes_on L27p1 L27p2 tt tt r.role)
may_step L27p2 r f = goes_on L27p2 L27p3 tt tt r.role
may_step L27p3 r f = either _ (comes_in r r.standing) (goes r L27p4) (upgrading_may L27p3 tt tt r.role (writing_ahead (comes_in r r.standing))) (goes_on L27p3 L27p4 tt tt r.role)
may_step L27p4 r f = goes_on L27p4 L27p5 tt tt r.role
may_step L27p5 r f = either _ (comes_in r Upgraded) (comes_in r r.standing) (upgrading_may L27p5 tt tt r.role (writing_ahead (comes_in r Upgraded))) (upgrading_may L27p5 tt tt r.role (writing_ahead (comes_in r r.standing)))
may_step Down28p1 r f = goes_on Down28p1 Down28p2 tt tt r.role
may_step Down28p2 r f = zero-le
may_step L28p1 r f = goes_on L28p1 L28p2 tt tt r.role
may_step L28p2 r f = goes_on L28p2 L29p2 tt tt r.role
may_step L29p2 r f = leaves_so r.role r.place r.standing r.prev r.curr r.d r.x
may_step L32p1 r f = zero-le

-- What a line leaves of the account.

arrived_finishes : (p : Place) (a : Account) (share : ℕ) → a.finished < 1000000 → a.total ≤ a.finished * 4294967295 → finishes_fit p (arrived p (charged a share)) ≡ true
arrived_finishes Rest a share few total = grind (arith, nat_tests)
arrived_finishes Inside a share few total = grind (arith, nat_tests)
arrived_finishes (Next l) a share few total = grind (arith, nat_tests)

arrived_changes : (p : Place) (may : Bool) (a : Account) (share : ℕ) → a.u ≤ 1000 → a.g + weight may ≤ a.u + 1 → changes_fit may (arrived p (charged a share)) ≡ true
arrived_changes Rest may a share few less = and_from _ _ (le-leb _ _ few) (le-leb _ _ less)
arrived_changes Inside may a share few less = and_from _ _ (le-leb _ _ few) (le-leb _ _ less)
arrived_changes (Next l) may a share few less = and_from _ _ (le-leb _ _ few) (le-leb _ _ less)

-- What a sound record says at its place.

on_line : (p : Place) → advance_refusal_at p ≡ None → (l : Line) × (p ≡ Next l)
on_line Rest h = let z : ◌≡◌ {A = ℕ} 0 1 = cc in absurd (omega arith)
on_line Inside h = let z : ◌≡◌ {A = ℕ} 0 1 = cc in absurd (omega arith)
on_line (Next l) h = (l, refl)

-- the account's room for one more finish
pub record Room (a : Account) : Type 0 where
  pub few : a.finished < 1000000
  pub total : a.total ≤ a.finished * 4294967295

running : (p : Place) (a : Account) → finishes_fit p a ≡ true → rests_at p ≡ false → Room a
running p a h e =
    let first = and_parts _ _ h in
    let others = and_parts _ _ first.1 in
    let less : ltb a.finished 1000000 ≡ true = ap (λ b. b || ltb a.finished 1000000) (sym e) ∙ others.0 in
    record { few = ltb-true _ _ less; total = leb-true _ _ others.1 }

fits_total : (p : Place) (a : Account) → finishes_fit p a ≡ true → leb a.total (a.finished * 4294967295) ≡ true
fits_total p a h = (and_parts (rests_at p || ltb a.finished 1000000) _ (and_parts (leb a.finished 1000000) _ h).1).1

-- the account's room for changes
pub record Changes (may : Bool) (a : Account) : Type 0 where
  pub upgrades : a.u ≤ 1000
  pub downgrades : a.g + weight may ≤ a.u + 1

changes_of : (may : Bool) (a : Account) → changes_fit may a ≡ true → Changes may a
changes_of may a h = let both = and_parts _ _ h in record { upgrades = leb-true _ _ both.0; downgrades = leb-true _ _ both.1 }

-- without a right no pass is out
none_out : (o : Option Right) → pass_fits None o ≡ true → o ≡ None
none_out None h = refl
none_out (Some w) h = let z : ◌≡◌ {A = ℕ} 0 1 = cc in absurd (omega arith)

-- A record whose next line is done.

module _ (r : Record) (l : Line) (at : r.track.place ≡ Next l) (s : Sound r) where
  line_room : Room r.account
  line_room = running _ _ s.finishes (ap rests_at at)

  line_clear : r.out ≡ None
  line_clear = none_out r.out (ap (λ p. pass_fits (right_at p r.track.role r.track.standing) r.out) (sym at) ∙ s.pass)

  line_settled : (f : Found) (share : ℕ) → Sound (settled r f share)
  line_settled f share =
      let t = stepped r.track f in
      let c = changes_of (writing_ahead r.track) r.account s.changes in
      let step : t ≡ settle l r.track f = ap (λ p. stepped_at p r.track f) at in
      let before : weight (writing_ahead r.track) ≡ weight (ahead_line r.track.role (code l)) = ap (λ p. weight (ahead_at p r.track.role r.track.standing)) at in
      let after : weight (writing_ahead t) ≡ weight (writing_ahead (settle l r.track f)) = ap (λ x. weight (writing_ahead x)) step in
      let less = may_step l r.track f in
      record {
        finishes = arrived_finishes t.place r.account share line_room.few line_room.total;
        changes = arrived_changes t.place (writing_ahead t) r.account share c.upgrades (omega (arith, c.downgrades, before, after, less));
        pass = ap (pass_fits (right_of t)) line_clear;
      }

pub room : (r : Record) → in_order r ≡ true → advance_refusal r ≡ None → Room r.account
room r h on = let at = on_line r.track.place on in line_room r at.0 at.1 (parts r h)

pub settled_in_order : (r : Record) (f : Found) (share : ℕ) → in_order r ≡ true → advance_refusal r ≡ None → in_order (settled r f share) ≡ true
settled_in_order r f share h on = let at = on_line r.track.place on in whole (settled r f share) (line_settled r at.0 at.1 (parts r h) f share)

-- A record with its pass out or back.

asked_yes : (b : Bool) (e : Refusal) → ask b e None ≡ None → b ≡ true
asked_yes true e h = refl
asked_yes false e h = let z : ◌≡◌ {A = ℕ} 0 1 = cc in absurd (omega arith)

pub back_in_order : (r : Record) → in_order r ≡ true → in_order (with_out r None) ≡ true
back_in_order r h = let s = parts r h in whole (with_out r None) (record { finishes = s.finishes; changes = s.changes; pass = refl })

taken_pass : (has out : Option Right) (w : Right) → take_refusal has out w ≡ None → is_right has w ≡ true
taken_pass None out w h = let z : ◌≡◌ {A = ℕ} 0 1 = cc in absurd (omega arith)
taken_pass (Some v) (Some x) w h = let z : ◌≡◌ {A = ℕ} 0 1 = cc in absurd (omega arith)
taken_pass (Some v) None w h = asked_yes (same_right v w) OtherRight h

pub out_in_order : (r : Record) (w : Right) → in_order r ≡ true → take_refusal (right_of r.track) r.out w ≡ None → in_order (with_out r (Some w)) ≡ true
out_in_order r w h free = let s = parts r h in whole (with_out r (Some w)) (record { finishes = s.finishes; changes = s.changes; pass = taken_pass (right_of r.track) r.out w free })

-- A record as it stands before the line of a call.

at_rest_now : (p : Place) (finished : ℕ) → begin_refusal_at p finished ≡ None → (rests_at p ≡ true) × (finished < 1000000)
at_rest_now Rest finished h = (refl, ltb-true _ _ (asked_yes (ltb finished 1000000) Finished h))
at_rest_now Inside finished h = let z : ◌≡◌ {A = ℕ} 0 1 = cc in absurd (omega arith)
at_rest_now (Next l) finished h = let z : ◌≡◌ {A = ℕ} 0 1 = cc in absurd (omega arith)

rest_has_none : (p : Place) (o : Role) (v : Standing) → rests_at p ≡ true → right_at p o v ≡ None
rest_has_none Rest o v h = refl
rest_has_none Inside o v h = let z : ◌≡◌ {A = ℕ} 0 1 = cc in absurd (omega arith)
rest_has_none (Next l) o v h = refl

begun_changes : (o : Role) → 0 + weight (ahead_line o (code (begin_line o))) ≤ 0 + 1
begun_changes Reader = lit≤ tt
begun_changes Writer = lit≤ tt

pub begun_in_order : (r : Record) → in_order r ≡ true → begin_refusal r ≡ None → in_order (begun r) ≡ true
begun_in_order r h free =
    let s = parts r h in
    let a = r.account in
    let was = at_rest_now r.track.place a.finished free in
    let total = fits_total r.track.place a s.finishes in
    let clear : r.out ≡ None = none_out r.out (ap (λ x. pass_fits x r.out) (sym (rest_has_none r.track.place r.track.role r.track.standing was.0)) ∙ s.pass) in
    whole (begun r) (record {
      finishes = and_from _ _ (le-leb _ _ (omega (arith, was.1))) (and_from _ _ (lt-ltb _ _ was.1) total);
      changes = le-leb _ _ (begun_changes r.track.role);
      pass = ap (pass_fits None) clear;
    })

-- a pass that is out tells the right that the task has, and so that it is inside
same_is : (v w : Right) → same_right v w ≡ true → v ≡ w
same_is Reading Reading h = refl
same_is Reading Writing h = let z : ◌≡◌ {A = ℕ} 0 1 = cc in absurd (omega arith)
same_is Writing Reading h = let z : ◌≡◌ {A = ℕ} 0 1 = cc in absurd (omega arith)
same_is Writing Writing h = refl

pub has_out : (has out : Option Right) (w : Right) → pass_fits has out ≡ true → out_for out w ≡ true → has ≡ Some w
has_out has None w h k = let z : ◌≡◌ {A = ℕ} 0 1 = cc in absurd (omega arith)
has_out None (Some v) w h k = let z : ◌≡◌ {A = ℕ} 0 1 = cc in absurd (omega arith)
has_out (Some u) (Some v) w h k = ap Some (same_is u v h ∙ same_is v w k)

inside : (p : Place) (o : Role) (v : Standing) (w : Right) → right_at p o v ≡ Some w → (rests_at p ≡ false) × (ahead_at p o v ≡ same_right w Writing)
inside Rest o v w h = let z : ◌≡◌ {A = ℕ} 0 1 = cc in absurd (omega arith)
inside Inside o v w h = let e : right_inside o v ≡ w = cc in (refl, ap (λ x. same_right x Writing) e)
inside (Next l) o v w h = let z : ◌≡◌ {A = ℕ} 0 1 = cc in absurd (omega arith)

-- what is known of a task whose pass for the right w is out
pub record Holder (r : Record) (w : Right) : Type 0 where
  pub room : Room r.account
  pub changes : Changes (same_right w Writing) r.account

pub holder : (r : Record) (w : Right) → in_order r ≡ true → out_for r.out w ≡ true → Holder r w
holder r w h out =
    let s = parts r h in
    let has = has_out (right_of r.track) r.out w s.pass out in
    let is = inside r.track.place r.track.role r.track.standing w has in
    record { room = running r.track.place r.account s.finishes is.0; changes = changes_of (same_right w Writing) r.account (ap (λ b. changes_fit b r.account) (sym is.1) ∙ s.changes) }

-- a task in the middle of an attempt, with no pass out
moving : (r : Record) (l : Line) → r.track.place ≡ Next l → r.out ≡ None → Room r.account → Changes (ahead_line r.track.role (code l)) r.account → in_order r ≡ true
moving r l at clear room c =
    whole r (record {
      finishes = ap (λ p. finishes_fit p r.account) at ∙ and_from _ _ (le-leb _ _ (omega (arith, room.few))) (and_from _ _ (lt-ltb _ _ room.few) (le-leb _ _ room.total));
      changes = ap (λ p. changes_fit (ahead_at p r.track.role r.track.standing) r.account) at ∙ and_from _ _ (le-leb _ _ c.upgrades) (le-leb _ _ c.downgrades);
      pass = ap (pass_fits (right_of r.track)) clear;
    })

pub upgrading_in_order : (r : Record) → in_order r ≡ true → out_for r.out Reading ≡ true → upgrade_refusal r ≡ None → in_order (upgrading r) ≡ true
upgrading_in_order r h out few =
    let k = holder r Reading h out in
    let less = ltb-true _ _ (asked_yes (ltb r.account.u 1000) Upgrades few) in
    let w = light (ahead_line r.track.role 271) in
    moving (upgrading r) L27p1 refl refl (record { few = k.room.few; total = k.room.total }) (record { upgrades = omega (arith, less); downgrades = omega (arith, w, k.changes.downgrades) })

downgrade_ends : (o : Role) (v : Standing) → weight (ahead_line o (code (downgrade_line v))) ≤ 0
downgrade_ends Reader Normal = lit≤ tt
downgrade_ends Reader Upgraded = lit≤ tt
downgrade_ends Reader Downgraded = lit≤ tt
downgrade_ends Writer Normal = lit≤ tt
downgrade_ends Writer Upgraded = lit≤ tt
downgrade_ends Writer Downgraded = lit≤ tt

pub downgrading_in_order : (r : Record) → in_order r ≡ true → out_for r.out Writing ≡ true → in_order (downgrading r) ≡ true
downgrading_in_order r h out =
    let k = holder r Writing h out in
    let w = downgrade_ends r.track.role r.track.standing in
    moving (downgrading r) (downgrade_line r.track.standing) refl refl (record { few = k.room.few; total = k.room.total }) (record { upgrades = k.changes.upgrades; downgrades = omega (arith, w, k.changes.downgrades) })

leave_ends : (o : Role) (v : Standing) → weight (ahead_line o (code (leave_line o v))) ≤ 0
leave_ends Reader Normal = lit≤ tt
leave_ends Reader Upgraded = lit≤ tt
leave_ends Reader Downgraded = lit≤ tt
leave_ends Writer Normal = lit≤ tt
leave_ends Writer Upgraded = lit≤ tt
leave_ends Writer Downgraded = lit≤ tt

pub leaving_in_order : (r : Record) (w : Right) → in_order r ≡ true → out_for r.out w ≡ true → in_order (leaving r) ≡ true
leaving_in_order r w h out =
    let k = holder r w h out in
    let e = leave_ends r.track.role r.track.standing in
    moving (leaving r) (leave_line r.track.role r.track.standing) refl refl k.room (record { upgrades = k.changes.upgrades; downgrades = omega (arith, e, k.changes.downgrades) })
