-- What an output means: the bytes that its sink has taken, and behind them those that it holds.
use Rattle.std.specs.Prelude.{◌≡◌, ℕ, Bool, List, ◌++◌, take, MatchResult, Option, Result, nat_lt}
use Rattle.streams.specs.Streams.{Cut, Passed}
use Rattle.listing.specs.declared.output.Output.{Output}
use Rattle.listing.specs.declared.refusal.Refusal.{Refusal}

-- the bytes that are yet to be written
abbrev pub held : {S : Type 0} → Output S → List ℕ
held o = take o.count o.bytes

-- too full for the next line, which may have 64 bytes
abbrev pub full : {S : Type 0} → Output S → Bool
full o = nat_lt 4032 o.count

-- the bytes are held behind the others; where that is refused, nothing more is held than before
abbrev pub Holds : {S : Type 0} → List ℕ → Output S → Result (Unit {0}) Refusal → Output S → Type 0
Holds bytes o r p = (p.sink ≡ o.sink) × MatchResult r (λ _. held p ≡ held o ++ bytes) (λ _. (held p ≡ held o) × (p.count ≡ o.count))

module _ {S : Type 0} (contents : S → Option (List ℕ)) where
  -- the bytes came behind those that were held, of which a part is written, which leads from o to p; where that failed a
  -- front of them all was written, and no other byte
  abbrev pub Appended : {T E : Type 0} → List ℕ → Output S → Result T E → Output S → Type 0
  Appended bytes o r p =
      MatchResult r
      (λ _. Passed (held o ++ bytes) (contents o.sink) (held p) (contents p.sink))
      (λ _. Cut (held o ++ bytes) (contents o.sink) (contents p.sink))
