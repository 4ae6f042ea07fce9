-- What reading an input takes from a source.
use Rattle.std.specs.Prelude.{◌≡◌, ℕ, ◌<◌, ◌≤◌, ◌⊎◌, List, length, IfSome, MatchResult, Option, Result}
use Rattle.std.specs.Io.KnownBytes.{Appends, Consumes, IsAtEnd}
use Rattle.streams.specs.Streams.{Cut}
use Rattle.schedule.specs.Meaning.{listing}

-- n bytes that a source gave, which led it from a to c, were put behind others, which led what takes them from b to d
pub record Moved (a : Option (List ℕ)) (c : Option (List ℕ)) (b : Option (List ℕ)) (d : Option (List ℕ)) (n : ℕ) : Type 0 where
  pub bytes : List ℕ
  pub given : Consumes a c bytes
  pub put : Appends b d bytes
  pub count : n ≡ length bytes

-- these are the whole input, or more bytes than a schedule may have: at most a piece more. They are listed as the input is
pub record Input (a : Option (List ℕ)) (c : Option (List ℕ)) (b : Option (List ℕ)) (d : Option (List ℕ)) (n : ℕ) : Type 0 where
  pub moved : Moved a c b d n
  pub enough : IsAtEnd c ⊎ (65536 < n)
  pub bounded : n ≤ 69632
  pub same : IfSome a (λ xs. listing moved.bytes ≡ listing xs)

-- the same; where it failed, a front of some bytes that the source gave was put, and no other byte
abbrev pub Reads : {E : Type 0} → Option (List ℕ) → Option (List ℕ) → Option (List ℕ) → Option (List ℕ) → Result ℕ E → Type 0
Reads a c b d r = MatchResult r (λ n. Input a c b d n) (λ _. (bytes : List ℕ) × Consumes a c bytes × Cut bytes b d × (length bytes ≤ 69632))
