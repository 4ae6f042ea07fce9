-- No rule is broken exactly in a sound state.
use Rattle.std.proofs.Common.{◌≡◌, ℕ, ◌<◌, ◌≤◌, Bool, true, false, eqb, ◌⊎◌, List, length, get_or, None, Option, sym, refl, ap, ◌∙◌, inl, inr, arith}
use mathlib.Core.Bool.{beq}
use Rattle.std.proofs.lemmas.Bool.{cases_Bool, cases_lt, or_cases, or_left, or_right, eq-eqb, ne_eqb, le-leb, eqb-true, eqb-false, leb-true, false≢true, both_ways}
use Rattle.std.proofs.lemmas.Bool.Decides.{nat_tests}
use Rattle.lines.specs.declared.place.Role.{Role}
use Rattle.lines.specs.declared.place.Role.TheVariants.{Reader}
use Rattle.lines.specs.declared.place.Standing.{Standing}
use Rattle.lines.specs.declared.place.Place.{Place}
use Rattle.lines.specs.declared.place.Place.TheVariants.{Rest, Inside, Next}
use Rattle.lines.specs.declared.track.Track.{Track}
use Rattle.lines.specs.Lines.{C, U}
use Rattle.lines.specs.Rights.{right_at}
use Rattle.lines.specs.Classes.{in_section, is_counted, has_upgraded, is_upgrading, is_writing, is_writing_normally, may_write, section_at, upgraded_at, upgrading_at}
use Rattle.calls.specs.declared.record.Record.{Record}
use Rattle.calls.specs.declared.rule.Rule.{Rule}
use Rattle.calls.specs.Census.{tasks_that}
use Rattle.calls.specs.Checks.{broken_rule, keeps_count, keeps_exclusion, keeps_ranges, keeps_u, keeps_upgrade, keeps_x, unless}
use Rattle.calls.specs.Records.{fresh}
use Rattle.calls.specs.SoundState.{Alone, SoundState, at_place}
use Rattle.calls.proofs.Counts.{apart_from_counts, counted_one, counts_from_apart, counts_one}

-- a task with the writing right is in the section
writes_in_section : (o : Place) (r : Role) (s : Standing) → is_writing (right_at o r s) ≡ true → section_at o ≡ true
writes_in_section Rest r s h = h
writes_in_section Inside r s h = refl
writes_in_section (Next l) r s h = absurd (false≢true h)

-- an upgraded task is upgrading or upgraded
upgraded_too : (o : Place) (s : Standing) → upgraded_at o s ≡ true → upgrading_at o s ≡ true
upgraded_too Rest s h = h
upgraded_too Inside s h = h
upgraded_too (Next l) s h = or_right _ _ h

same_tests : (a b : Bool) → beq a b ≡ true → a ≡ b
same_tests true true h = refl
same_tests true false h = sym h
same_tests false true h = h
same_tests false false h = refl

tests_same : (a b : Bool) → a ≡ b → beq a b ≡ true
tests_same true b h = ap (beq true) (sym h)
tests_same false b h = ap (beq false) (sym h)

unless_none : (kept : Bool) (k : Rule) (others : Option Rule) → unless kept k others ≡ None → (kept ≡ true) × (others ≡ None)
unless_none true k others h = (refl, h)
unless_none false k others h = absurd (let z : ◌≡◌ {A = ℕ} 0 1 = cc in omega arith)

record AllKept (cells : List ℕ) (tasks : List Record) : Type 0 where
  ranges : keeps_ranges cells (length tasks) ≡ true
  count : keeps_count cells tasks ≡ true
  exclusion : keeps_exclusion tasks ≡ true
  upgrade : keeps_upgrade tasks ≡ true
  u : keeps_u cells tasks ≡ true
  x : keeps_x cells tasks ≡ true

module _ (cells : List ℕ) (tasks : List Record) where
  all_kept : broken_rule cells tasks ≡ None → AllKept cells tasks
  all_kept h =
      let (a, h2) = unless_none _ _ _ h in
      let (b, h3) = unless_none _ _ _ h2 in
      let (e, h4) = unless_none _ _ _ h3 in
      let (f, h5) = unless_none _ _ _ h4 in
      let (g, h6) = unless_none _ _ _ h5 in
      record { ranges = a; count = b; exclusion = e; upgrade = f; u = g; x = (unless_none _ _ _ h6).0 }

  none_broken : AllKept cells tasks → broken_rule cells tasks ≡ None
  none_broken k = rw (k.ranges, k.count, k.exclusion, k.upgrade, k.u, k.x)

  -- as many of a class as there are, by places
  has_one : (p : Track → Bool) (i : ℕ) → i < length tasks → at_place p tasks i ≡ true → 0 < tasks_that p tasks
  has_one p i l e = counts_one (λ (r : Record). p r.track) (fresh Reader) tasks i l e

  one_there : (p : Track → Bool) → 0 < tasks_that p tasks → (i : ℕ) × (i < length tasks) × (at_place p tasks i ≡ true)
  one_there p h = counted_one (λ (r : Record). p r.track) (fresh Reader) tasks h

  module _ (q p : Track → Bool) (within : (r : Track) → q r ≡ true → p r ≡ true) where
    alone_from : (tasks_that q tasks ≡ 0) ⊎ (tasks_that p tasks ≤ 1) → Alone q p tasks
    alone_from = apart_from_counts (λ (r : Record). q r.track) (λ (r : Record). p r.track) (λ r. within r.track) (fresh Reader) tasks

    from_alone : Alone q p tasks → (tasks_that q tasks ≡ 0) ⊎ (tasks_that p tasks ≤ 1)
    from_alone = counts_from_apart (λ (r : Record). q r.track) (λ (r : Record). p r.track) (λ r. within r.track) (fresh Reader) tasks

  one_alone : (p : Track → Bool) → Alone p p tasks → tasks_that p tasks ≤ 1
  one_alone p h = elim (from_alone p p (λ r e. e) h) [ inl none ↦ omega arith | inr few ↦ few ]

  may_write_within : (r : Track) → may_write r ≡ true → in_section r ≡ true
  may_write_within r = writes_in_section r.place r.role r.standing

  upgraded_within : (r : Track) → has_upgraded r ≡ true → is_upgrading r ≡ true
  upgraded_within r = upgraded_too r.place r.standing

  one_upgraded : Alone is_upgrading is_upgrading tasks → tasks_that has_upgraded tasks ≤ 1
  one_upgraded h =
      one_alone has_upgraded (λ i j hi hj ne e.
      elim (cases_Bool (at_place has_upgraded tasks j)) [
        | inr off ↦ off
        | inl on ↦ absurd (both_ways _ (h i j hi hj ne (upgraded_within (get_or tasks i (fresh Reader)).track e)) (upgraded_within (get_or tasks j (fresh Reader)).track on))
      ])

  pub sound_from : broken_rule cells tasks ≡ None → SoundState cells tasks
  sound_from none =
      let k = all_kept none in
      let count : get_or cells C 0 ≡ tasks_that is_counted tasks = eqb-true _ _ k.count in
      let upgrade = leb-true (tasks_that is_upgrading tasks) 1 k.upgrade in
      let alone = alone_from is_upgrading is_upgrading (λ r e. e) (inr upgrade) in
      let few = one_upgraded alone in
      let same = same_tests (eqb (get_or cells U 0) 2) (eqb (tasks_that has_upgraded tasks) 1) k.u in
      let some-writes : (tasks_that may_write tasks ≡ 0) ⊎ (tasks_that in_section tasks ≤ 1) =
      elim (or_cases _ _ k.exclusion) [ inl e ↦ inl (eqb-true _ _ e) | inr e ↦ inr (leb-true _ _ e) ] in
      record {
        ranges = let h = k.ranges in (grind (arith, nat_tests), grind (arith, nat_tests), grind (arith, nat_tests), grind (arith, nat_tests), grind (arith, nat_tests), grind (arith, nat_tests), grind (arith, nat_tests));
        count = count;
        exclusion = alone_from may_write in_section may_write_within some-writes;
        one_upgrade = alone;
        upgraded = (
          (λ two. one_there has_upgraded (let n = eqb-true _ _ (sym same ∙ eq-eqb _ _ two) in omega arith)),
          (λ i l e. let n = has_one has_upgraded i l e in let m : tasks_that has_upgraded tasks ≡ 1 = omega arith in eqb-true _ _ (same ∙ eq-eqb _ _ m)),
        );
        writer = λ i l e.
            elim (or_cases _ _ k.x) [
              | inl none' ↦ absurd (let n = has_one is_writing_normally i l e in let m = eqb-true (tasks_that is_writing_normally tasks) 0 none' in omega arith)
              | inr zero ↦ eqb-true _ _ zero
            ];
      }

  pub sound_unbroken : SoundState cells tasks → broken_rule cells tasks ≡ None
  sound_unbroken s =
      let few = one_upgraded s.one_upgrade in
      none_broken (
      record {
        ranges = let h = s.ranges in grind (arith, nat_tests);
        count = eq-eqb _ _ s.count;
        exclusion = elim (from_alone may_write in_section may_write_within s.exclusion) [ inl none ↦ or_left _ _ (eq-eqb _ _ none) | inr one ↦ or_right _ _ (le-leb _ _ one) ];
        upgrade = le-leb _ _ (one_alone is_upgrading s.one_upgrade);
        u = tests_same _ _ (
            elim (cases_Bool (eqb (get_or cells U 0) 2)) [
              | inl e ↦ let (i, l, f) = s.upgraded.0 (eqb-true _ _ e) in let n = has_one has_upgraded i l f in e ∙ sym (eq-eqb _ _ (omega arith))
              | inr e ↦ e ∙ sym (ne_eqb _ _ (λ m. let (i, l, f) = one_there has_upgraded (omega arith) in eqb-false _ _ e (s.upgraded.1 i l f)))
            ]);
        x =
            elim (cases_lt 0 (tasks_that is_writing_normally tasks)) [
              | inl some ↦ let (i, l, f) = one_there is_writing_normally some in or_right _ _ (eq-eqb _ _ (s.writer i l f))
              | inr none ↦ or_left _ _ (eq-eqb (tasks_that is_writing_normally tasks) 0 (omega arith))
            ];
      })
