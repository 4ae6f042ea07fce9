-- The bound on each field.
use Rattle.std.specs.Prelude.{ℕ, zero, suc, ◌≤◌, slice_index}
use Rattle.std.proofs.Common.{arith}
use Rattle.packed.specs.Fields.{fields}

-- no field is above 15
pub fields_small : (bits k : ℕ) → slice_index (fields bits) k ≤ 15
fields_small bits zero = omega arith
fields_small bits (suc zero) = omega arith
fields_small bits (suc (suc zero)) = omega arith
fields_small bits (suc (suc (suc zero))) = omega arith
fields_small bits (suc (suc (suc (suc zero)))) = omega arith
fields_small bits (suc (suc (suc (suc (suc zero))))) = omega arith
fields_small bits (suc (suc (suc (suc (suc (suc zero)))))) = omega arith
fields_small bits (suc (suc (suc (suc (suc (suc (suc k))))))) = omega arith
