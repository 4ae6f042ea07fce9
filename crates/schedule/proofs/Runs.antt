-- Lines done one after another.
use Rattle.std.proofs.Common.{◌≡◌, ℕ, ◌+◌, suc, List, [], ◌∷◌, ◌++◌, length, None, Ok, Err, Option, Result, sym, refl, ap, ◌∙◌, subst, add-zero, arith}
use Rattle.std.proofs.lemmas.List.{append-nil, append_assoc}
use Rattle.calls.specs.declared.refusal.Refusal.{Refusal as LockRefusal}
use Rattle.script.specs.declared.reader.Reader.{Reader}
use Rattle.script.specs.declared.refusal.Refusal.{Refusal as LineRefusal}
use Rattle.script.specs.Calls.{Ask, Said, blank, call, note, parse}
use Rattle.script.specs.Reading.{to_come}
use Rattle.listing.specs.declared.answer.Answer.{Answer}
use Rattle.std.specs.Io.KnownBytes.{Appends}
use Rattle.streams.specs.Streams.{Passed}
use Rattle.streams.proofs.Passed.{appends_none, passed_before, passed_from, passed_more}
use Rattle.schedule.specs.Desks.{Board, board_tells}
use Rattle.schedule.specs.Listing.{numbered, reply_bytes}
use Rattle.schedule.specs.Lists.{Lists, ListsOn}
use Rattle.schedule.specs.Meaning.{listed}
use Rattle.schedule.specs.Progress.{Progress, after, bytes_of, untold_bytes, whole_told}
use Rattle.schedule.specs.Replies.{AllObeyed, Heard, Obeyed, board_after, call_heard, replied, replies}
use Rattle.schedule.proofs.WholeListing.{after_parts, bytes_parts}

-- nothing is written, and nothing came behind
pub none_passed : (bytes : List ℕ) (a : Option (List ℕ)) → Passed bytes a bytes a
none_passed bytes a = record { written = []; whole = refl; wrote = appends_none a }

pub nothing_passed : (bytes : List ℕ) (a : Option (List ℕ)) → Passed (bytes ++ []) a bytes a
nothing_passed bytes a = passed_from _ _ bytes a a (sym (append-nil bytes)) (none_passed bytes a)

-- all is written
pub all_passed : (bytes rest : List ℕ) (a b : Option (List ℕ)) → Appends a b bytes → rest ≡ [] → Passed bytes a rest b
all_passed bytes rest a b wrote none = record { written = bytes; whole = sym (append-nil bytes) ∙ ap (λ z. bytes ++ z) (sym none); wrote = wrote }

module _ {S : Type 0} (does : S → Ask → Result Answer LockRefusal → S → Type 0) where
  pub lists_none : (s : S) (r : Reader) (before : List ℕ) (a : Option (List ℕ)) → Lists does s r before a s r before a
  lists_none s r before a = record { done = []; replies = []; lines = refl; counted = sym (add-zero r.number); obeyed = (refl, refl); passed = nothing_passed before a }

  -- the line n is done, of which and of the bytes before it a part is written, and then others
  pub lists_more : {s m t : S} {r q u : Reader} {before mid rest : List ℕ} {a b c : Option (List ℕ)} {l line : List ℕ} {n : ℕ} (reply : Heard) →
      to_come r ≡ l ∷ to_come q → q.number ≡ r.number + 1 → n ≡ q.number → Obeyed does s (parse l) reply m → reply_bytes n reply ≡ line → Passed (before ++ line) a mid b → Lists does m q mid b t u rest c → Lists does s r before a t u rest c
  lists_more {s} {m} {t} {r} {q} {u} {before} {mid} {rest} {a} {b} {c} {l} {line} {n} reply first on is obeyed so passed more =
      let tail = numbered q.number more.replies in
      let own = reply_bytes (r.number + 1) reply in
      let bytes : line ++ tail ≡ own ++ numbered (r.number + 1) more.replies = ap (λ z. z ++ tail) (sym so) ∙ ap (λ k. reply_bytes k reply ++ tail) (is ∙ on) ∙ ap (λ k. own ++ numbered k more.replies) on in
      record {
        done = l ∷ more.done;
        replies = reply ∷ more.replies;
        lines = first ∙ ap (λ z. l ∷ z) more.lines;
        counted = more.counted ∙ ap (λ k. k + length more.done) on ∙ one_on r.number (length more.done);
        obeyed = (reply, more.replies, refl, m, obeyed, more.obeyed);
        passed =
            passed_from _ _ rest a c (append_assoc before line tail ∙ ap (λ z. before ++ z) bytes)
            (passed_more ((before ++ line) ++ tail) (mid ++ tail) rest a b c (passed_before (before ++ line) tail mid a b passed) more.passed);
      }
    where
      one_on : (n k : ℕ) → n + 1 + k ≡ n + suc k
      one_on n k = omega arith

  -- what calls do at the board, lines do
  module _ (board : S → Board) (sees : (s : S) (a : Ask) (o : Result Answer LockRefusal) (t : S) → does s a o t → ◌≡◌ {A = Result Answer LockRefusal × Board} (o, board t) (board_tells a (board s))) where
    pub line_seen : (said : Result Said LineRefusal) (s t : S) (r : Heard) → Obeyed does s said r t → ◌≡◌ {A = Heard × Board} (r, board t) (replied said (board s))
    line_seen (Err e) s t r (is, same) = λ i. (is i, board (same i))
    line_seen (Ok blank) s t r (is, same) = λ i. (is i, board (same i))
    line_seen (Ok (note text)) s t r (is, same) = λ i. (is i, board (same i))
    line_seen (Ok (call a)) s t r (o, does_so, is) =
        let seen = sees s a o t does_so in
        λ i. ((is ∙ ap (λ (z : Result Answer LockRefusal × Board). call_heard z.0) seen) i, (seen i).1)

    all_seen : (ls : List (List ℕ)) (s t : S) (rs : List Heard) → AllObeyed does s ls rs t → (rs ≡ replies (board s) ls) × (board t ≡ board_after (board s) ls)
    all_seen [] s t rs (none, same) = (none, ap board same)
    all_seen (l ∷ ls) s t rs (r, more, is, m, obeyed, others) =
        let seen = line_seen (parse l) s m r obeyed in
        let rest = all_seen ls m t more others in
        let b : board m ≡ (replied (parse l) (board s)).1 = ap (λ (z : Heard × Board). z.1) seen in
        let first : r ≡ (replied (parse l) (board s)).0 = ap (λ (z : Heard × Board). z.0) seen in
        (is ∙ ap (λ z. z ∷ more) first ∙ ap (λ z. (replied (parse l) (board s)).0 ∷ z) (rest.0 ∙ ap (λ x. replies x ls) b), rest.1 ∙ ap (λ x. board_after x ls) b)

    pub lists_seen : (untold : Option LineRefusal) → untold ≡ None → (s t : S) (r q : Reader) (before rest : List ℕ) (a c : Option (List ℕ)) → Lists does s r before a t q rest c →
        ListsOn (record { untold = untold; number = r.number; left = to_come r; board = board s }) before a (record { untold = untold; number = q.number; left = to_come q; board = board t }) rest c
    lists_seen untold none s t r q before rest a c h =
        let seen = all_seen h.done s t h.replies h.obeyed in
        let lines : Passed (before ++ listed r.number (board s) h.done) a rest c = subst (λ z. Passed (before ++ numbered r.number z) a rest c) seen.0 h.passed in
        record {
          done = h.done;
          left = to_come q;
          lines = h.lines;
          reached = λ i. record { untold = none i; number = h.counted i; left = to_come q; board = seen.1 i };
          passed = subst (λ u. Passed (before ++ (untold_bytes u ++ listed r.number (board s) h.done)) a rest c) (sym none) lines;
        }

  -- and what all calls keep
  module _ {N : Type 0} (name : S → N) (keeps : (s : S) (a : Ask) (o : Result Answer LockRefusal) (t : S) → does s a o t → name t ≡ name s) where
    pub line_keeps : (said : Result Said LineRefusal) (s t : S) (r : Heard) → Obeyed does s said r t → name t ≡ name s
    line_keeps (Err e) s t r (is, same) = ap name same
    line_keeps (Ok blank) s t r (is, same) = ap name same
    line_keeps (Ok (note text)) s t r (is, same) = ap name same
    line_keeps (Ok (call a)) s t r (o, does_so, is) = keeps s a o t does_so

    pub all_keep : (ls : List (List ℕ)) (s t : S) (rs : List Heard) → AllObeyed does s ls rs t → name t ≡ name s
    all_keep [] s t rs (none, same) = ap name same
    all_keep (l ∷ ls) s t rs (r, more, is, m, obeyed, others) = all_keep ls m t more others ∙ line_keeps (parse l) s m r obeyed

-- two parts of a run, the second behind what the first left
pub on_more : (p q u : Progress) (before mid kept rest : List ℕ) (a b c : Option (List ℕ)) → ListsOn p before a q mid b → kept ≡ mid → ListsOn q kept b u rest c → ListsOn p before a u rest c
on_more p q u before mid kept rest a b c h is k =
    let left : h.left ≡ k.done ++ k.left = ap (λ (x : Progress). x.left) (sym h.reached) ∙ k.lines in
    let first = bytes_of h.done p in
    let later : bytes_of k.done q ≡ listed (p.number + length h.done) (board_after p.board h.done) k.done = ap (bytes_of k.done) h.reached in
    record {
      done = h.done ++ k.done;
      left = k.left;
      lines = h.lines ∙ ap (λ z. h.done ++ z) left ∙ sym (append_assoc h.done k.done k.left);
      reached =
          k.reached ∙ ap (λ x. after k.done k.left (whole_told x)) h.reached
          ∙ (λ i. record { untold = None; number = counted p.number h.done k.done i; left = k.left; board = sym (after_parts p.board h.done k.done) i });
      passed =
          passed_from _ _ rest a c (append_assoc before first (bytes_of k.done q) ∙ ap (λ z. before ++ (first ++ z)) later ∙ ap (λ z. before ++ z) (bytes_parts p h.done k.done))
          (passed_more ((before ++ first) ++ bytes_of k.done q) (kept ++ bytes_of k.done q) rest a b c (subst (λ z. Passed ((before ++ first) ++ bytes_of k.done q) a (z ++ bytes_of k.done q) b) (sym is) (passed_before (before ++ first) (bytes_of k.done q) mid a b h.passed)) k.passed);
    }
  where
    counted : (n : ℕ) (xs ys : List (List ℕ)) → n + length xs + length ys ≡ n + length (xs ++ ys)
    counted n [] ys = omega arith
    counted n (x ∷ xs) ys = omega (arith, counted n xs ys)
