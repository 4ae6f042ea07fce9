-- The fields of a number hold any numbers that one operation makes of theirs.
use Rattle.std.proofs.Common.{◌≡◌, ℕ, List, ◌∙◌, sym, inl, inr}
use Rattle.memory.proofs.Unrefused.{OneSet}
use Rattle.packed.specs.declared.word.Packed.{Packed}
use Rattle.packed.specs.Fields.{fields}
use Rattle.packed.proofs.Replaced.{replace_field, replaced}

pub packed_takes : (p : Packed) (ys : List ℕ) → OneSet 15 (fields p.bits) ys → (q : Packed) × (fields q.bits ≡ ys)
packed_takes p ys (inl same) = (p, sym same)
packed_takes p ys (inr (c, n, low, small, is)) = (record { bits = replaced p.bits n c }, replace_field p.bits n c small low ∙ sym is)
