use Rattle.std.proofs.Common.{◌≡◌, ◌≤◌, ℕ, true, false, List, ◌++◌, length, is_err, Ok, Err, Option, Result, refl, sym, ap, ◌∙◌, subst, rules, arith}
use Rattle.std.proofs.lemmas.Bool.{false≢true}
use Rattle.std.proofs.lemmas.Result.{MatchResult-from_err}
use Rattle.script.specs.declared.reader.Reader.{Reader}
use Rattle.listing.specs.declared.output.Output.{Output}
use Rattle.listing.specs.declared.refusal.Refusal.{Refusal as ListingRefusal}
use Rattle.listing.specs.Listing.{noted, shown}
use Rattle.listing.specs.Outputs.{Appended, Holds, full, held}
use Rattle.streams.proofs.Passed.{cut_before, passed_before, passed_more}
use Rattle.std.specs.Prelude.{MatchResult}
use Rattle.streams.specs.Streams.{Cut, Passed}
use Rattle.schedule.specs.Lists.{Lists}
use Rattle.schedule.specs.Listing.{reply_bytes}
use Rattle.schedule.specs.Replies.{heard}
use Rattle.schedule.proofs.Runs.{all_passed, lists_more, lists_none, none_passed, nothing_passed}
use Rattle.schedule.proofs.printing.list_lines.Goals.{else-is_full, then-is_full+in_ok-flush}
use Rattle.schedule.proofs.printing.list_lines.Goals as goal

-- a line that was held, or not, where the buffer is full

passed_held : {K : Type 0} (contents : K → Option (List ℕ)) (line : List ℕ) (o p : Output K) (r : Result (Unit {0}) ListingRefusal) → false ≡ is_err r → Holds line o r p → Passed (held o ++ line) (contents o.sink) (held p) (contents p.sink)
passed_held contents line o p (Ok u) is (sink, more) = subst (λ k. Passed (held o ++ line) (contents o.sink) (held p) (contents k)) (sym sink) (subst (λ z. Passed (held o ++ line) (contents o.sink) z (contents o.sink)) (sym more) (none_passed (held o ++ line) (contents o.sink)))
passed_held contents line o p (Err e) is h = absurd (false≢true is)

passed_ok : {K : Type 0} (contents : K → Option (List ℕ)) (line : List ℕ) (o p : Output K) (r : Result (Unit {0}) ListingRefusal) → r ≡ Ok tt → Holds line o r p → Passed (held o ++ line) (contents o.sink) (held p) (contents p.sink)
passed_ok contents line o p r is h = passed_held contents line o p r (sym (ap is_err is)) h

-- then it is put by the longer way
passed_full : {K E : Type 0} (contents : K → Option (List ℕ)) (line : List ℕ) (o p q : Output K) (r : Result (Unit {0}) ListingRefusal) (x : Result (Unit {0}) E) → true ≡ is_err r → Holds line o r p → Appended contents line p x q → Appended contents line o x q
passed_full contents line o p q (Ok u) x is h a = absurd (false≢true (sym is))
passed_full {K} contents line o p q (Err e) x is (sink, same) a =
    let alike : Appended contents line p x q ≡ Appended contents line o x q = λ i. MatchResult x (λ _. Passed (same.0 i ++ line) (contents (sink i)) (held q) (contents q.sink)) (λ _. Cut (same.0 i ++ line) (contents (sink i)) (contents q.sink)) in
    subst (λ z. z) alike a

pub loop-reader-init : goal.loop-reader-init
loop-reader-init g c = (refl, λ t q rest x h. h)

pub overflow_cast-number : goal.overflow_cast-number
overflow_cast-number g c =
    let few : c.number-number.result ≤ 65536 = omega (arith, c.number-number.ensures.within, ap length c.in-Some.ensures.same_input, ap length c.loop-reader.invariant.0, c.requires) in
    search rules

pub returns-in_default-clause-lists : goal.returns-in_default-clause-lists
returns-in_default-clause-lists g c =
    let s = c.loop-reader.server in
    let before = held c.loop-reader.out in
    let a = g.S.Sink.contents c.loop-reader.out.sink in
    let none = lists_none g.V.Serve.serves s c.loop-reader.reader before a in
    (before, c.loop-reader.invariant.1 s c.next_line.new.self before a (subst (λ q. Lists g.V.Serve.serves s c.loop-reader.reader before a s q before a) (sym c.in_default.ensures.1) none), refl)

pub returns-in_default-clause-input : goal.returns-in_default-clause-input
returns-in_default-clause-input g c = ap (λ (r : Reader). r.input.now) c.in_default.ensures.1 ∙ c.loop-reader.invariant.0

pub loop-reader-preserved-in-Nothing : goal.loop-reader-preserved-in-Nothing
loop-reader-preserved-in-Nothing g c =
    let so = ap (λ z. reply_bytes c.number-number.result (heard z)) c.in-Nothing.is in (
      c.in-Some.ensures.same_input ∙ c.loop-reader.invariant.0,
      λ t q rest x h. c.loop-reader.invariant.1 t q rest x
          (lists_more g.V.Serve.serves (heard c.obey_line.result) c.in-Some.ensures.first c.in-Some.ensures.counted c.number-number.ensures.value c.obey_line.ensures.obeys so (nothing_passed (held c.loop-reader.out) _) h),
    )

pub returns-in_err-put_note-in-Note-clause-lists : goal.returns-in_err-put_note-in-Note-clause-lists
returns-in_err-put_note-in-Note-clause-lists g c =
    let n = c.number-number.result in
    let so = ap (λ z. reply_bytes n (heard z)) c.in-Note.is in
    let (rest, cut) = passed_full g.S.Sink.contents (noted n c.in-Note.note.now) c.loop-reader.out c.hold_note.new.self c.put_note.new.self c.hold_note.result (Err c.in_err-put_note-in-Note.field-0.0) c.if-is_err.ensures.value c.hold_note.ensures.holds c.in_err-put_note-in-Note.ensures.appended in
    let none = lists_none g.V.Serve.serves c.obey_line.new.server c.next_line.new.self rest _ in
    let lists = lists_more g.V.Serve.serves (heard c.obey_line.result) c.in-Some.ensures.first c.in-Some.ensures.counted c.number-number.ensures.value c.obey_line.ensures.obeys so cut none in
    (rest, c.loop-reader.invariant.1 _ _ rest _ lists, MatchResult-from_err c.from_residual.result _ _ c.from_residual.ensures.0 (λ e. c.in_err-put_note-in-Note.ensures.lost))

pub loop-reader-preserved-in_ok-put_note-in-Note : goal.loop-reader-preserved-in_ok-put_note-in-Note
loop-reader-preserved-in_ok-put_note-in-Note g c =
    let n = c.number-number.result in
    let so = ap (λ z. reply_bytes n (heard z)) c.in-Note.is in
    let passed = passed_full {E = g.row.S-Error.Denot} g.S.Sink.contents (noted n c.in-Note.note.now) c.loop-reader.out c.hold_note.new.self c.put_note.new.self c.hold_note.result (Ok tt) c.if-is_err.ensures.value c.hold_note.ensures.holds c.in_ok-put_note-in-Note.ensures.appended in (
      c.in-Some.ensures.same_input ∙ c.loop-reader.invariant.0,
      λ t q rest x h. c.loop-reader.invariant.1 t q rest x (lists_more g.V.Serve.serves (heard c.obey_line.result) c.in-Some.ensures.first c.in-Some.ensures.counted c.number-number.ensures.value c.obey_line.ensures.obeys so passed h),
    )

pub loop-reader-preserved-else-is_err : goal.loop-reader-preserved-else-is_err
loop-reader-preserved-else-is_err g c =
    let n = c.number-number.result in
    let so = ap (λ z. reply_bytes n (heard z)) c.in-Note.is in
    let passed = passed_held g.S.Sink.contents (noted n c.in-Note.note.now) c.loop-reader.out c.hold_note.new.self c.hold_note.result c.if-is_err.ensures.value c.hold_note.ensures.holds in (
      c.in-Some.ensures.same_input ∙ c.loop-reader.invariant.0,
      λ t q rest x h. c.loop-reader.invariant.1 t q rest x (lists_more g.V.Serve.serves (heard c.obey_line.result) c.in-Some.ensures.first c.in-Some.ensures.counted c.number-number.ensures.value c.obey_line.ensures.obeys so passed h),
    )

pub returns-in_err-flush-clause-lists : goal.returns-in_err-flush-clause-lists
returns-in_err-flush-clause-lists g c =
    let n = c.number-number.result in
    let so = ap (λ z. reply_bytes n (heard z)) c.in-Answered.is in
    let (rest, cut) = cut_before (held c.loop-reader.out) (shown n c.in-Answered.answer) _ _ c.in_err-flush.ensures.written in
    let none = lists_none g.V.Serve.serves c.obey_line.new.server c.next_line.new.self rest _ in
    let lists = lists_more g.V.Serve.serves (heard c.obey_line.result) c.in-Some.ensures.first c.in-Some.ensures.counted c.number-number.ensures.value c.obey_line.ensures.obeys so cut none in
    let r = c.from_residual-in_err-flush in
    (rest, c.loop-reader.invariant.1 _ _ rest _ lists, MatchResult-from_err r.result _ _ r.ensures.0 (λ e. c.in_err-flush.ensures.empty))

pub unwrap-requires : goal.unwrap-requires
unwrap-requires g c =
    let few : full c.if-is_full.out ≡ false = elim c.if-is_full.branch [
      | then-is_full+in_ok-flush w ↦ ap full w.out-is ∙ w.in_ok-flush.ensures.room
      | else-is_full w ↦ ap full w.out-is ∙ sym w.if-is_full.ensures
    ] in
    c.hold_answer.ensures.fits few

pub loop-reader-preserved : goal.loop-reader-preserved
loop-reader-preserved g c =
    let line = shown c.number-number.result c.in-Answered.answer in
    let so = ap (λ z. reply_bytes c.number-number.result (heard z)) c.in-Answered.is in
    let before = held c.loop-reader.out in
    let a = g.S.Sink.contents c.loop-reader.out.sink in
    let o = c.if-is_full.out in
    let first : Passed before a (held o) (g.S.Sink.contents o.sink) = elim c.if-is_full.branch [
      | then-is_full+in_ok-flush w ↦ subst (λ (o : Output g.row.S.Denot). Passed before a (held o) (g.S.Sink.contents o.sink)) (sym w.out-is) (all_passed before (held w.flush.new.self) a _ w.in_ok-flush.ensures.written w.in_ok-flush.ensures.empty)
      | else-is_full w ↦ subst (λ (o : Output g.row.S.Denot). Passed before a (held o) (g.S.Sink.contents o.sink)) (sym w.out-is) (none_passed before a)
    ] in
    let p = c.hold_answer.new.self in
    let then = passed_ok g.S.Sink.contents line o p c.hold_answer.result c.unwrap.ensures c.hold_answer.ensures.holds in
    let passed = passed_more (before ++ line) (held o ++ line) (held p) a _ _ (passed_before before line (held o) a _ first) then in (
      c.in-Some.ensures.same_input ∙ c.loop-reader.invariant.0,
      λ t q rest x h. c.loop-reader.invariant.1 t q rest x (lists_more g.V.Serve.serves (heard c.obey_line.result) c.in-Some.ensures.first c.in-Some.ensures.counted c.number-number.ensures.value c.obey_line.ensures.obeys so passed h),
    )

pub returns-clause-lists : goal.returns-clause-lists
returns-clause-lists g c =
    let s = c.loop-reader.server in
    let before = held c.loop-reader.out in
    let a = g.S.Sink.contents c.loop-reader.out.sink in
    (before, c.loop-reader.invariant.1 s c.loop-reader.reader before a (lists_none g.V.Serve.serves s c.loop-reader.reader before a), refl)

pub returns-clause-input : goal.returns-clause-input
returns-clause-input g c = c.loop-reader.invariant.0
