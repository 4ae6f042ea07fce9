-- What becomes of bytes that are written to a sink.
use Rattle.std.specs.Prelude.{◌≡◌, ℕ, ◌<◌, ◌≤◌, List, ◌++◌, length, IfOk, MatchResult, Option, Result}
use Rattle.std.specs.Io.KnownBytes.{Appends}

-- no more bytes are taken than there are, and at least one where there is one
abbrev pub TakesSome : {E : Type 0} → Result ℕ E → List ℕ → Type 0
TakesSome r bytes = IfOk r (λ n. (n ≤ length bytes) × (0 < length bytes → 0 < n))

-- of the bytes `all` a part was written, which led the writer from a to b, and the others are held
pub record Passed (all : List ℕ) (a : Option (List ℕ)) (rest : List ℕ) (b : Option (List ℕ)) : Type 0 where
  pub written : List ℕ
  pub whole : all ≡ written ++ rest
  pub wrote : Appends a b written

-- the same, where it is not said how many: a front of the bytes `all` was written, and no other byte
abbrev pub Cut : List ℕ → Option (List ℕ) → Option (List ℕ) → Type 0
Cut all a b = (rest : List ℕ) × Passed all a rest b

-- all the bytes `all` were written, which led the writer from a to b; where that failed a front of them, and no other byte
abbrev pub Writes : {E : Type 0} → List ℕ → Option (List ℕ) → Option (List ℕ) → Result (Unit {0}) E → Type 0
Writes all a b r = MatchResult r (λ _. Appends a b all) (λ _. Cut all a b)
