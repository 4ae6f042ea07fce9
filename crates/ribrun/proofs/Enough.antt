-- What is read says all that the input says.
use Rattle.std.proofs.Common.{◌≡◌, ℕ, ◌+◌, ◌<◌, ◌≤◌, List, [], ◌++◌, length, Some, None, Option, refl, sym, ap, ◌∙◌, subst, inl, inr, arith, length-append}
use Rattle.std.proofs.lemmas.Bool.{cond-false, lt-leb}
use Rattle.std.proofs.lemmas.List.{append-nil}
use Rattle.std.specs.Prelude.{IfSome}
use Rattle.std.specs.Io.KnownBytes.{Appends, Consumes, IsAtEnd}
use Rattle.streams.specs.Streams.{Cut}
use Rattle.streams.proofs.Given.{consumes_more}
use Rattle.streams.proofs.Passed.{appends_more, cut_behind}
use Rattle.schedule.specs.Meaning.{listing}
use Rattle.ribrun.specs.Reading.{Input, Moved}

-- one more piece
pub moved_more : (a m c b e d : Option (List ℕ)) (n count : ℕ) (piece : List ℕ) → Moved a m b e n → Consumes m c piece → Appends e d piece → length piece ≡ count → Moved a c b d (n + count)
moved_more a m c b e d n count piece moved given put is = record {
  bytes = moved.bytes ++ piece;
  given = consumes_more a m c moved.bytes piece moved.given given;
  put = appends_more b e d moved.bytes piece moved.put put;
  count = omega (arith, moved.count, is, length-append moved.bytes piece);
}

-- of which a front is put
pub cut_piece : (a m c b e d : Option (List ℕ)) (n : ℕ) (piece : List ℕ) → Moved a m b e n → Consumes m c piece → Cut piece e d → n ≤ 65536 → length piece ≤ 4096 → (bytes : List ℕ) × Consumes a c bytes × Cut bytes b d × (length bytes ≤ 69632)
cut_piece a m c b e d n piece moved given cut short less =
    let all = moved.bytes ++ piece in
    (all, consumes_more a m c moved.bytes piece moved.given given, cut_behind all piece b e d (record { written = moved.bytes; whole = refl; wrote = moved.put }) cut, omega (arith, moved.count, length-append moved.bytes piece))

same_whole : (a c : Option (List ℕ)) (bytes : List ℕ) → Consumes a c bytes → IsAtEnd c → IfSome a (λ xs. listing bytes ≡ listing xs)
same_whole None c bytes given end = tt
same_whole (Some xs) None bytes given end = absurd given
same_whole (Some xs) (Some left) bytes given end = ap listing (sym (given ∙ ap (λ z. bytes ++ z) end ∙ append-nil bytes))

-- nothing is left
pub whole_input : (a m c b d : Option (List ℕ)) (n : ℕ) (piece : List ℕ) → Moved a m b d n → Consumes m c piece → piece ≡ [] → IsAtEnd c → n ≤ 65536 → Input a c b d n
whole_input a m c b d n piece moved given none end short =
    let all : Consumes a c moved.bytes = subst (Consumes a c) (ap (λ z. moved.bytes ++ z) none ∙ append-nil moved.bytes) (consumes_more a m c moved.bytes piece moved.given given) in
    record {
      moved = record { bytes = moved.bytes; given = all; put = moved.put; count = moved.count };
      enough = inl end;
      bounded = omega arith;
      same = same_whole a c moved.bytes all end;
    }

-- an input that is too long is listed as any other
long_alike : (xs ys : List ℕ) → 65536 < length xs → 65536 < length ys → listing xs ≡ listing ys
long_alike xs ys h k = cond-false _ _ _ (lt-leb (length xs) 65536 h) ∙ sym (cond-false _ _ _ (lt-leb (length ys) 65536 k))

same_long : (a c : Option (List ℕ)) (bytes : List ℕ) → Consumes a c bytes → 65536 < length bytes → IfSome a (λ xs. listing bytes ≡ listing xs)
same_long None c bytes given long = tt
same_long (Some xs) None bytes given long = absurd given
same_long (Some xs) (Some left) bytes given long = let all : length xs ≡ length bytes + length left = ap length given ∙ length-append bytes left in long_alike bytes xs long (omega arith)

-- it is too long
pub long_input : (a c b d : Option (List ℕ)) (n : ℕ) → Moved a c b d n → 65536 < n → n ≤ 69632 → Input a c b d n
long_input a c b d n moved long bounded = record {
  moved = moved;
  enough = inr long;
  bounded = bounded;
  same = same_long a c moved.bytes moved.given (subst (λ k. 65536 < k) moved.count long);
}
