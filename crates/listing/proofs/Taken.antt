-- Bytes written one behind another at the start of a buffer.
use Rattle.std.proofs.Common.{◌≡◌, ℕ, ◌+◌, ◌<◌, ◌≤◌, List, [], ◌∷◌, ◌++◌, length, take, drop, set, ap, ◌∙◌, refl, arith, append_assoc, length-append, length-drop}
use Rattle.std.proofs.Math.Seq.{take-append_seam, drop-append-add}
use Rattle.std.proofs.lemmas.List.{drop-drop, drop-set, take-set, take-append-drop}
use Rattle.listing.specs.Written.{TookBytes, Takes, laid}

-- cs behind bs, in a buffer that had bs at its start
laid_more : (d bs cs : List ℕ) → take (length bs) (laid d bs) ++ cs ++ drop (length bs + length cs) (laid d bs) ≡ laid d (bs ++ cs)
laid_more d bs cs = rw (take-append_seam, drop-append-add, drop-drop, length-append)

took_more : (d bs : List ℕ) (m : ℕ) (o cs : List ℕ) → TookBytes d bs m o → m + length cs ≤ length o → TookBytes d (bs ++ cs) (m + length cs) (take m o ++ cs ++ drop (m + length cs) o)
took_more d bs m o cs t room =
    let long : length o ≡ length bs + length (drop (length bs) d) = ap length t.after ∙ length-append bs _ in
    let rest = length-drop (length bs) d in
    record {
      room = omega (arith, length-append bs cs);
      count = omega (arith, length-append bs cs);
      after = rw (t.after, t.count) (laid_more d bs cs);
    }

-- cs written over what stands behind the first m bytes
pub takes_over : (m : ℕ) (o cs : List ℕ) (k : ℕ) (p : List ℕ) → m + length cs ≤ length o → k ≡ m + length cs → p ≡ take m o ++ cs ++ drop (m + length cs) o → Takes m o cs k p
takes_over m o cs k p room count is = record {
  count = count;
  grows = λ d bs t. rw (count, is) (took_more d bs m o cs t room);
}

pub takes_byte : (m : ℕ) (o : List ℕ) (x : ℕ) → m < length o → Takes m o (x ∷ []) (m + 1) (set o m x)
takes_byte m o x room =
    let parts = take-append-drop m (set o m x) in
    let behind = drop-set o m x room in
    let before = take-set o m x in
    takes_over m o (x ∷ []) (m + 1) (set o m x) (omega arith) (omega arith) (rw append_assoc (cc))

-- one behind the other
pub takes_both : {m k l : ℕ} {o p q a b : List ℕ} → Takes m o a k p → Takes k p b l q → Takes m o (a ++ b) l q
takes_both {m} {k} {l} {o} {p} {q} {a} {b} first second = record {
  count = omega (arith, length-append a b);
  grows = λ d bs t. rw (← append_assoc) (second.grows d (bs ++ a) (first.grows d bs t));
}

-- what an untouched buffer takes stands at its start
pub took : {o cs : List ℕ} {k : ℕ} {p : List ℕ} → Takes 0 o cs k p → TookBytes o cs k p
took {o} {cs} {k} {p} t = t.grows o [] (record { room = omega arith; count = refl; after = refl })

-- what has been taken stands at the start
pub took_first : {d bs : List ℕ} {m : ℕ} {o : List ℕ} → TookBytes d bs m o → take m o ≡ bs
took_first {d} {bs} {m} {o} t = rw (t.after, t.count, take-append_seam)
