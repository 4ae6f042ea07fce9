-- What a deed finds, as a number or as an answer.
use Rattle.std.specs.Prelude.{ℕ, Bool, false, ◌==◌, nat_lt}
use Rattle.lines.specs.declared.deed.Found.{Found}
use Rattle.lines.specs.declared.deed.Found.TheVariants.{Nothing, Number, Answer}

abbrev pub number_found : Found → ℕ
number_found Nothing = 0
number_found (Number n) = n
number_found (Answer b) = 0

abbrev pub is_number : ℕ → Found → Bool
is_number k Nothing = false
is_number k (Number n) = n == k
is_number k (Answer b) = false

abbrev pub is_above_one : Found → Bool
is_above_one Nothing = false
is_above_one (Number n) = nat_lt 1 n
is_above_one (Answer b) = false

abbrev pub says_yes : Found → Bool
says_yes Nothing = false
says_yes (Number n) = false
says_yes (Answer b) = b
