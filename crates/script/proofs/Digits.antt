-- Numbers read from the left.
use Rattle.std.proofs.Common.{◌≡◌, ℕ, ◌+◌, ◌-◌, ◌*◌, ◌<◌, min, List, [], ◌∷◌, ◌++◌, length, get_or, take, refl, ap, ◌∙◌, arith}
use Rattle.std.proofs.lemmas.List.{take_more}
use Rattle.script.specs.Numbers.{value_after}

value_more : (n : ℕ) (ds : List ℕ) (d : ℕ) → value_after n (ds ++ d ∷ []) ≡ 10 * value_after n ds + (d - 48)
value_more n [] d = refl
value_more n (c ∷ ds) d = value_more (10 * n + (c - 48)) ds d

-- one more digit, with the number so far capped
pub one_more_digit : (n : ℕ) (ds : List ℕ) (i m : ℕ) → i < length ds → m ≡ min (value_after n (take i ds)) 4294967296 → min (10 * m + (get_or ds i 0 - 48)) 4294967296 ≡ min (value_after n (take (i + 1) ds)) 4294967296
one_more_digit n ds i m lt is =
    let more = ap (value_after n) (take_more ds i 0 lt) ∙ value_more n (take i ds) (get_or ds i 0) in
    omega (arith, is, more)
