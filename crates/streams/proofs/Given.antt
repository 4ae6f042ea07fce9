-- The bytes that a source has given, read by read.
use Rattle.std.proofs.Common.{ℕ, List, ◌++◌, Some, None, Option, sym, ap, ◌∙◌}
use Rattle.std.proofs.lemmas.List.{append_assoc}
use Rattle.std.specs.Io.KnownBytes.{Consumes}

pub consumes_more : (a b c : Option (List ℕ)) (bs cs : List ℕ) → Consumes a b bs → Consumes b c cs → Consumes a c (bs ++ cs)
consumes_more None b c bs cs h k = tt
consumes_more (Some xs) None c bs cs h k = absurd h
consumes_more (Some xs) (Some ys) None bs cs h k = absurd k
consumes_more (Some xs) (Some ys) (Some zs) bs cs h k = h ∙ ap (λ z. bs ++ z) k ∙ sym (append_assoc bs cs zs)
