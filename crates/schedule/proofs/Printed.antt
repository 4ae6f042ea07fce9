-- All that is left of a listing, printed part by part.
use Rattle.std.proofs.Common.{◌≡◌, ℕ, ◌+◌, List, [], ◌∷◌, ◌++◌, length, IsErr, OnErr, Some, None, Ok, Err, Option, Result, sym, refl, ap, ◌∙◌, subst, add-zero}
use Rattle.std.proofs.lemmas.List.{append-nil, append_assoc}
use Rattle.std.proofs.lemmas.Result.{MatchResult-from_err}
use Rattle.std.specs.Io.KnownBytes.{Appends}
use Rattle.script.specs.Calls.{parse}
use Rattle.script.specs.Reading.{to_come}
use Rattle.listing.specs.declared.output.Output.{Output}
use Rattle.listing.specs.Outputs.{Appended, held}
use Rattle.streams.specs.Streams.{Cut, Passed, Writes}
use Rattle.streams.proofs.Passed.{cut_before, passed_all, passed_from, passed_more}
use Rattle.schedule.specs.declared.schedule.Schedule.{Schedule}
use Rattle.schedule.specs.Listing.{reply_bytes}
use Rattle.schedule.specs.Lists.{ListsOn, ListsOnInto, Prints}
use Rattle.schedule.specs.Meaning.{listed}
use Rattle.schedule.specs.Progress.{Progress, after, bytes_of, next, next_line, progress, untold_bytes, whole_told}
use Rattle.schedule.specs.Replies.{board_after, replied}
use Rattle.schedule.proofs.Runs.{nothing_passed, on_more}
use Rattle.schedule.proofs.WholeListing.{bytes_parts}

-- the next line of one that is told, where a line is left
pub next_is : (p : Progress) (l : List ℕ) (ls : List (List ℕ)) → p.untold ≡ None → p.left ≡ l ∷ ls → next p ≡ (Some (reply_bytes (p.number + 1) (replied (parse l) p.board).0), after (l ∷ []) ls p)
next_is p l ls u left = λ i. next_line (u i) (left i) p

module _ {K : Type 0} (contents : K → Option (List ℕ)) where
  -- why the input is refused is told, and no line is done
  whole_listed : (p q : Progress) (o k : Output K) (rest : List ℕ) → q ≡ whole_told p → Passed (held o ++ untold_bytes p.untold) (contents o.sink) rest (contents k.sink) → ListsOn p (held o) (contents o.sink) q rest (contents k.sink)
  whole_listed p q o k rest reached passed = record {
    done = [];
    left = p.left;
    lines = refl;
    reached = reached ∙ (λ i. record { untold = None; number = sym (add-zero p.number) i; left = p.left; board = p.board });
    passed = passed_from _ _ rest _ _ (ap (λ z. held o ++ z) (sym (append-nil (untold_bytes p.untold)))) passed;
  }

  pub whole_into : {E : Type 0} (p q : Progress) (o k : Output K) (r : Result (Unit {0}) E) → q ≡ whole_told p → Appended contents (untold_bytes p.untold) o r k → OnErr r (held k ≡ []) → ListsOnInto contents p o r q k
  whole_into p q o k (Ok u) reached passed lost = (held k, whole_listed p q o k (held k) reached passed, refl)
  whole_into p q o k (Err e) reached (rest, passed) lost = (rest, whole_listed p q o k rest reached passed, lost)

  -- nothing is to be told, and no line is done
  pub nothing_listed : (E : Type 0) (p : Progress) (o : Output K) → p.untold ≡ None → ListsOnInto {E = E} contents p o (Ok tt) p o
  nothing_listed E p o none =
      let a = contents o.sink in
      let passed = subst (λ u. Passed (held o ++ untold_bytes u) a (held o) a) (sym none) (nothing_passed (held o) a) in
      whole_into {E = E} p p o o (Ok tt) (λ i. record { untold = none i; number = p.number; left = p.left; board = p.board }) passed tt

  -- two parts of a run
  pub then_more : {E : Type 0} (p q u : Progress) (o k l : Output K) (r : Result (Unit {0}) E) → ListsOnInto {E = E} contents p o (Ok tt) q k → ListsOnInto contents q k r u l → ListsOnInto contents p o r u l
  then_more p q u o k l r (mid, on, is) (rest, more, kept) = (rest, on_more p q u (held o) mid (held k) rest _ _ _ on is more, kept)

-- a front of all that is left
cut_printed : (p q : Progress) (before rest : List ℕ) (a c : Option (List ℕ)) → ListsOn p before a q rest c → Cut (before ++ bytes_of p.left p) a c
cut_printed p q before rest a c on =
    let tail = listed (p.number + length on.done) (board_after p.board on.done) on.left in
    let all : (before ++ bytes_of on.done p) ++ tail ≡ before ++ bytes_of p.left p = append_assoc before (bytes_of on.done p) tail ∙ ap (λ z. before ++ z) (bytes_parts p on.done on.left ∙ ap (λ ls. bytes_of ls p) (sym on.lines)) in
    subst (λ z. Cut z a c) all (cut_before (before ++ bytes_of on.done p) tail a c (rest, on.passed))

module _ {K E : Type 0} (contents : K → Option (List ℕ)) (s t : Schedule) (o k : Output K) (r : Result (Unit {0}) E) where
  prints_part : (rest : List ℕ) → IsErr r → ListsOn (progress s) (held o) (contents o.sink) (progress t) rest (contents k.sink) → held k ≡ [] → Prints contents s o r t k
  prints_part rest fails on lost = record {
    writes = MatchResult-from_err r _ _ fails (λ e. cut_printed (progress s) (progress t) (held o) rest _ _ on);
    reached = MatchResult-from_err r _ _ fails (λ e. (rest, on));
    empty = lost;
  }

  -- a write failed
  pub prints_failed : (e : E) → IsErr r → ListsOnInto contents (progress s) o (Err e) (progress t) k → Prints contents s o r t k
  prints_failed e fails (rest, on, lost) = prints_part rest fails on lost

-- no line is left, and what is held is written
pub prints_all : {K E : Type 0} (contents : K → Option (List ℕ)) (s t : Schedule) (o k l : Output K) (r : Result (Unit {0}) E) → ListsOnInto {E = E} contents (progress s) o (Ok tt) (progress t) k → to_come t.reader ≡ [] → Writes (held k) (contents k.sink) (contents l.sink) r → held l ≡ [] → Prints contents s o r t l
prints_all contents s t o k l (Err e) (rest, on, is) none (more, cut) empty =
    let passed = passed_more _ rest more _ (contents k.sink) _ on.passed (passed_from rest (held k) more _ _ is cut) in
    prints_part contents s t o l (Err e) more refl (record { done = on.done; left = on.left; lines = on.lines; reached = on.reached; passed = passed }) empty
prints_all contents s t o k l (Ok u) (rest, on, is) none wrote empty =
    let p = progress s in
    let left : on.left ≡ [] = ap (λ (x : Progress). x.left) (sym on.reached) ∙ none in
    let done : on.done ≡ p.left = sym (append-nil on.done) ∙ ap (λ z. on.done ++ z) (sym left) ∙ sym on.lines in
    let passed = passed_more _ rest [] _ (contents k.sink) _ on.passed (record { written = rest; whole = sym (append-nil rest); wrote = subst (Appends (contents k.sink) (contents l.sink)) is wrote }) in
    record {
      writes = subst (λ ls. Appends (contents o.sink) (contents l.sink) (held o ++ bytes_of ls p)) done (passed_all _ [] _ _ passed refl);
      reached = on.reached ∙ (λ i. after (done i) (left i) (whole_told p));
      empty = empty;
    }
