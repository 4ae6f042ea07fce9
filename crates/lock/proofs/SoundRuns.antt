-- A lock whose facts hold is sound: the check finds no broken rule.
use Rattle.std.proofs.Common.{◌≡◌, ℕ, ◌<◌, ◌≤◌, true, cond, List, length, get_or, None, Ok, refl, ap, inl, inr, arith}
use Rattle.std.proofs.lemmas.Bool.{cases_Bool, cases_eq, le-leb, ne_eqb}
use Rattle.std.proofs.lemmas.List.Sums.{count_by-le-length}
use Rattle.lines.specs.declared.place.Place.{Place}
use Rattle.lines.specs.declared.place.Role.{Role}
use Rattle.lines.specs.declared.place.Role.TheVariants.{Reader}
use Rattle.lines.specs.declared.place.Standing.{Standing}
use Rattle.lines.specs.Classes.{has_upgraded, is_counted, is_upgrading, upgrading_at, writes_at}
use Rattle.calls.specs.declared.record.Record.{Record}
use Rattle.calls.specs.Census.{tasks_that}
use Rattle.calls.specs.Checks.{state_checked}
use Rattle.calls.specs.Records.{fresh}
use Rattle.calls.specs.SoundState.{Alone, SoundState, at_place}
use Rattle.calls.specs.States.{State}
use Rattle.calls.proofs.Counts.{counted_one, counts_one}
use Rattle.calls.proofs.SoundState.{sound_unbroken}
use Rattle.lock.proofs.Facts.{rank_at, two}
use Rattle.lock.proofs.Holds.{at}
use Rattle.lock.proofs.Judged.{Lawful}
use Rattle.lock.proofs.Runs.{apart}

upgrading_rank : (p : Place) (o : Role) (s : Standing) → upgrading_at p s ≡ true → (25 ≤ rank_at p o s) × (rank_at p o s ≤ 32)
upgrading_rank p o s h = grind arith

writing_rank : (p : Place) (o : Role) (s : Standing) → writes_at p o s ≡ true → rank_at p o s ≡ 37
writing_rank p o s h = grind arith

two_is : (u n : ℕ) → n ≡ two u → 0 < n → u ≡ 2
two_is u n e h = elim (cases_eq u 2) [ inl is ↦ is | inr other ↦ let z : two u ≡ 0 = ap (λ b. cond b 1 0) (ne_eqb u 2 other) in absurd (omega arith) ]

module _ (s : State) (g : Lawful s) where
  abbrev rs : List Record
  rs = s.records

  one_upgrading : Alone is_upgrading is_upgrading rs
  one_upgrading i j hi hj n e =
      elim (cases_Bool (at_place is_upgrading rs j)) [
        | inr off ↦ off
        | inl on ↦
            let r = (at rs i).track in
            let q = (at rs j).track in
            let a = upgrading_rank r.place r.role r.standing e in
            let b = upgrading_rank q.place q.role q.standing on in
            absurd ((g.holds.pair i j n).one_upgrade a.0 a.1 b.0 b.1)
      ]

  pub sound : SoundState s.cells rs
  sound =
      let one = g.holds.one 0 in
      record {
        ranges = (omega (arith, g.holds.count, count_by-le-length (λ (r : Record). is_counted r.track) rs), g.holds.x_cell, one.u, one.d, one.gate, one.permit, one.v);
        count = g.holds.count;
        exclusion = λ i j hi hj n e. apart s i j g n e;
        one_upgrade = one_upgrading;
        upgraded = (
          (λ is. counted_one (λ (r : Record). has_upgraded r.track) (fresh Reader) rs (let z : two (get_or s.cells 5 0) ≡ 1 = rw is refl in omega (arith, g.holds.holders))),
          (λ i h e. two_is (get_or s.cells 5 0) (tasks_that has_upgraded rs) g.holds.holders (counts_one (λ (r : Record). has_upgraded r.track) (fresh Reader) rs i h e)),
        );
        writer = λ i h e. let r = (at rs i).track in let q = writing_rank r.place r.role r.standing e in ((g.holds.one i).writer_inside (omega (arith, q)) (omega (arith, q))).1;
      }

  pub unbroken : state_checked s.cells rs ≡ Ok None
  unbroken =
      let none = sound_unbroken s.cells rs sound in
      rw (le-leb 1 (length rs) g.some, le-leb (length rs) 64 g.few) (ap Ok none)
