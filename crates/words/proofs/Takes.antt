-- Words hold any numbers that one operation makes of theirs.
use Rattle.std.proofs.Common.{◌≡◌, ℕ, zero, suc, ◌≤◌, List, get_or, set, refl, ◌∙◌, sym, inl, inr, arith}
use Rattle.std.proofs.lemmas.List.{length-set}
use Rattle.memory.specs.Cells.{zeros}
use Rattle.memory.proofs.Unrefused.{OneSet, set_within}
use Rattle.words.specs.declared.array.Words.{Words}

pub words_take : (w : Words) (ys : List ℕ) → OneSet 4294967295 w.numbers ys → (v : Words) × (v.numbers ≡ ys)
words_take w ys (inl same) = (w, sym same)
words_take w ys (inr (c, n, low, small, is)) =
    (record { numbers = set w.numbers c n; seven = length-set w.numbers c n ∙ w.seven; small = set_within 4294967295 w.numbers c n w.small small }, sym is)

-- no cell of new words is above the limit
pub zero_small : (k : ℕ) → get_or zeros k 0 ≤ 4294967295
zero_small zero = omega arith
zero_small (suc zero) = omega arith
zero_small (suc (suc zero)) = omega arith
zero_small (suc (suc (suc zero))) = omega arith
zero_small (suc (suc (suc (suc zero)))) = omega arith
zero_small (suc (suc (suc (suc (suc zero))))) = omega arith
zero_small (suc (suc (suc (suc (suc (suc zero)))))) = omega arith
zero_small (suc (suc (suc (suc (suc (suc (suc k))))))) = omega arith

-- all cells at 0
abbrev pub new_words : Words
new_words = record { numbers = zeros; seven = refl; small = zero_small }
