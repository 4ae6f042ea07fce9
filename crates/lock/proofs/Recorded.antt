-- What a record says of its task's calls, and what a line leaves of it: the attempts that are finished, and what they cost.
use Rattle.std.proofs.Common.{◌≡◌, ℕ, ◌+◌, Bool, true, false, cond, Some, None, Option, refl, ap, arith}
use Rattle.lines.specs.declared.deed.Found.{Found}
use Rattle.lines.specs.declared.place.Place.{Place}
use Rattle.lines.specs.declared.place.Place.TheVariants.{Rest, Inside, Next}
use Rattle.lines.specs.declared.place.Right.{Right}
use Rattle.lines.specs.declared.place.Role.{Role}
use Rattle.lines.specs.declared.place.Role.TheVariants.{Reader, Writer}
use Rattle.lines.specs.declared.place.Standing.{Standing}
use Rattle.lines.specs.declared.track.Track.{Track}
use Rattle.lines.specs.Lines.{settle}
use Rattle.lines.specs.Rights.{right_at}
use Rattle.lines.specs.Starts.{begin_line}
use Rattle.calls.specs.declared.account.Account.{Account}
use Rattle.calls.specs.declared.record.Record.{Record}
use Rattle.calls.specs.Questions.{advance_refusal_at, begin_refusal_at}
use Rattle.calls.specs.Records.{arrived}
use Rattle.lock.specs.Charges.{Finishes, comes_to_rest, unfinished}
use Rattle.lock.specs.History.{History}

-- what a record says
abbrev pub told : Record → History
told r = record { out = r.out; begins = r.account.finished + unfinished r.track.place; upgrades = r.account.u; downgrades = r.account.g }

-- what a record says, by its parts
abbrev pub says_of : Option Right → ℕ → ℕ → ℕ → History
says_of o n u g = record { out = o; begins = n; upgrades = u; downgrades = g }

-- a line of a task that is in an attempt leaves all this
pub arrived_told : (p : Place) (o : Option Right) (a : Account) → says_of o ((arrived p a).finished + unfinished p) (arrived p a).u (arrived p a).g ≡ says_of o (a.finished + 1) a.u a.g
arrived_told Rest o a = ap (λ n. says_of o n a.u a.g) (omega arith)
arrived_told p o a = refl

pub cond_same : {A : Type 0} (b : Bool) (x : A) → x ≡ cond b x x
cond_same true x = refl
cond_same false x = refl

-- Coming to rest.

pub never : (p : Place) → comes_to_rest p p ≡ false
never Rest = refl
never p = refl

pub stays : (p q : Place) (a b : Account) → q ≡ p → b ≡ a → (b.finished ≡ a.finished + cond (comes_to_rest p q) 1 0) × (b.total ≡ a.total + cond (comes_to_rest p q) b.cost 0)
stays p q a b e k = rw (e, k, never p) (omega arith, omega arith)

pub quiet_finishes : (r q : Record) → q.track ≡ r.track → q.account ≡ r.account → Finishes r q
quiet_finishes r q e k = stays r.track.place q.track.place r.account q.account (ap (λ (x : Track). x.place) e) k

-- a task at this place is in an attempt
abbrev pub Away : Place → Type 0
Away Rest = ⊥
Away p = Unit {0}

pub moves : (p q : Place) (a b : Account) → Away p → b.finished ≡ a.finished → b.total ≡ a.total → ((arrived q b).finished ≡ a.finished + cond (comes_to_rest p q) 1 0) × ((arrived q b).total ≡ a.total + cond (comes_to_rest p q) (arrived q b).cost 0)
moves Rest q a b h e k = absurd h
moves p Rest a b h e k = (ap (λ n. n + 1) e, ap (λ n. n + b.cost) k)
moves p q a b h e k = (omega arith, omega arith)

-- the first line of an attempt ends none
pub begins : (p : Place) (o : Role) (k : Track) (f : Found) (n : ℕ) (a b : Account) → begin_refusal_at p n ≡ None → b.finished ≡ a.finished → b.total ≡ a.total →
    ((arrived (settle (begin_line o) k f).place b).finished ≡ a.finished + cond (comes_to_rest p (settle (begin_line o) k f).place) 1 0) × ((arrived (settle (begin_line o) k f).place b).total ≡ a.total + cond (comes_to_rest p (settle (begin_line o) k f).place) (arrived (settle (begin_line o) k f).place b).cost 0)
begins Rest Reader k f n a b h e j = (omega arith, omega arith)
begins Rest Writer k f n a b h e j = (omega arith, omega arith)
begins p o k f n a b h e j = cc

pub away_unfinished : (p : Place) → Away p → unfinished p ≡ 1
away_unfinished Rest h = absurd h
away_unfinished p h = refl

pub rests_before : (p : Place) (n : ℕ) → begin_refusal_at p n ≡ None → unfinished p ≡ 0
rests_before Rest n h = refl
rests_before p n h = cc

pub on_line_away : (p : Place) → advance_refusal_at p ≡ None → Away p
on_line_away (Next l) h = tt
on_line_away p h = cc

pub right_away : (p : Place) (o : Role) (s : Standing) (w : Right) → right_at p o s ≡ Some w → Away p
right_away Inside o s w h = tt
right_away p o s w h = cc
