-- The bytes of a line behind those that are held, and what of them is written.
use Rattle.std.proofs.Common.{◌≡◌, ℕ, ◌+◌, ◌≤◌, List, [], ◌∷◌, ◌++◌, length, take, drop, set, Ok, Err, Option, Result, sym, refl, ap, ◌∙◌, subst, arith, length-append, length-take-le}
use Rattle.std.proofs.lemmas.List.{append-nil, append_assoc, take_at}
use Rattle.std.specs.Prelude.{MatchResult}
use Rattle.std.specs.Io.KnownBytes.{Appends}
use Rattle.streams.specs.Streams.{Cut, Passed}
use Rattle.streams.proofs.Passed.{appends_more, cut_before, cut_behind, passed_before, passed_from, passed_more}
use Rattle.listing.specs.declared.refusal.Refusal.{Refusal}
use Rattle.listing.specs.Answers.{newline}
use Rattle.listing.specs.Listing.{heading, noted}
use Rattle.listing.specs.Written.{Put, TookBytes}

-- the bytes bs, taken behind the first `filled`
pub held_more : (buffer bs d o behind : List ℕ) (filled count : ℕ) → filled ≤ length buffer → TookBytes d bs count o → take (filled + count) (take filled buffer ++ (o ++ behind)) ≡ take filled buffer ++ bs
held_more buffer bs d o behind filled count fits t =
    let held = take filled buffer in
    ap (λ z. take (filled + count) (held ++ (z ++ behind))) t.after
    ∙ ap (λ z. take (filled + count) (held ++ z)) (append_assoc bs (drop (length bs) d) behind)
    ∙ ap (take (filled + count)) (sym (append_assoc held bs (drop (length bs) d ++ behind)))
    ∙ take_at (held ++ bs) (drop (length bs) d ++ behind) (filled + count) (omega (arith, length-append held bs, length-take-le filled buffer fits, t.count))

-- the heading of a line, put behind the first `filled`
pub held_heading : (buffer d o behind : List ℕ) (filled count n : ℕ) (r : Result ℕ Refusal) → r ≡ Ok count → Put d (heading n) r o → filled ≤ length buffer → take (filled + count) (take filled buffer ++ (o ++ behind)) ≡ take filled buffer ++ heading n
held_heading buffer d o behind filled count n r is put fits = held_more buffer (heading n) d o behind filled count fits (subst (λ r. Put d (heading n) r o) is put)

-- what is held with the heading of a line, and the rest of a note's line
note_parts : (held note all : List ℕ) (n : ℕ) → all ≡ held ++ heading n → held ++ noted n note ≡ all ++ (note ++ newline)
note_parts held note all n is = ap (λ z. held ++ z) (append_assoc (heading n) note newline) ∙ sym (append_assoc held (heading n) (note ++ newline)) ∙ ap (λ z. z ++ (note ++ newline)) (sym is)

-- what was held was written with the heading of a line, then the note; the end of the line is held
pub passed_note : (held note all rest : List ℕ) (n : ℕ) (a b c : Option (List ℕ)) → all ≡ held ++ heading n → Appends a b all → rest ≡ newline → Appends b c note → Passed (held ++ noted n note) a rest c
passed_note held note all rest n a b c is first end wrote = record {
  written = all ++ note;
  whole = note_parts held note all n is ∙ sym (append_assoc all note newline) ∙ ap (λ z. (all ++ note) ++ z) (sym end);
  wrote = appends_more a b c all note first wrote;
}

-- what was held was not all written with the heading of a line, or it was and the note was not
pub cut_heading : (held note all : List ℕ) (n : ℕ) (a b : Option (List ℕ)) → all ≡ held ++ heading n → Cut all a b → Cut (held ++ noted n note) a b
cut_heading held note all n a b is cut = subst (λ z. Cut z a b) (sym (note_parts held note all n is)) (cut_before all (note ++ newline) a b cut)

pub cut_note : (held note all : List ℕ) (n : ℕ) (a b c : Option (List ℕ)) → all ≡ held ++ heading n → Appends a b all → Cut note b c → Cut (held ++ noted n note) a c
cut_note held note all n a b c is first (rest, more) = (
  rest ++ newline,
  record {
    written = all ++ more.written;
    whole = note_parts held note all n is ∙ ap (λ z. all ++ (z ++ newline)) more.whole ∙ ap (λ z. all ++ z) (append_assoc more.written rest newline) ∙ sym (append_assoc all more.written (rest ++ newline));
    wrote = appends_more a b c all more.written first more.wrote;
  },
)

-- a byte at the front is all that is held
pub first_byte : (bytes : List ℕ) (x : ℕ) → 1 ≤ length bytes → take 1 (set bytes 0 x) ≡ x ∷ []
first_byte [] x some = absurd (omega (arith, some))
first_byte (y ∷ bytes) x some = refl

-- a line comes behind what is held then
pub passed_line : (before after line rest : List ℕ) (a b : Option (List ℕ)) → Passed (before ++ []) a after b → rest ≡ after ++ line → Passed (before ++ line) a rest b
passed_line before after line rest a b passed is =
    subst (λ z. Passed (before ++ line) a z b) (sym is)
    (passed_before before line after a b (passed_from before (before ++ []) after a b (append-nil before) passed))

pub cut_line : (before line : List ℕ) (a b : Option (List ℕ)) → Cut (before ++ []) a b → Cut (before ++ line) a b
cut_line before line a b cut = cut_before before line a b (subst (λ z. Cut z a b) (append-nil before) cut)

-- the same where the line passed further
pub passed_then : {T E : Type 0} (before after kept line rest : List ℕ) (a b c : Option (List ℕ)) (r : Result T E) → Passed (before ++ []) a after b → kept ≡ after → MatchResult r (λ _. Passed (kept ++ line) b rest c) (λ _. Cut (kept ++ line) b c) → MatchResult r (λ _. Passed (before ++ line) a rest c) (λ _. Cut (before ++ line) a c)
passed_then before after kept line rest a b c (Ok x) passed is more = passed_more (before ++ line) (kept ++ line) rest a b c (passed_line before after line (kept ++ line) a b passed (ap (λ z. z ++ line) is)) more
passed_then before after kept line rest a b c (Err e) passed is cut = cut_behind (before ++ line) (kept ++ line) a b c (passed_line before after line (kept ++ line) a b passed (ap (λ z. z ++ line) is)) cut
