-- What a schedule means: from its bytes to the bytes of its listing, with no code in between.
use Rattle.std.specs.Prelude.{ℕ, cond, List, [], ◌∷◌, length, nat_le}
use Rattle.script.specs.declared.refusal.Refusal.TheVariants.{Length}
use Rattle.script.specs.Cuts.{lines}
use Rattle.schedule.specs.Desks.{Board, closed_board}
use Rattle.schedule.specs.Listing.{numbered, whole_refused}
use Rattle.schedule.specs.Replies.{replies}

-- the bytes of these lines, obeyed at the board, where n lines went before
abbrev pub listed : ℕ → Board → List (List ℕ) → List ℕ
listed n b ls = numbered n (replies b ls)

-- 16 rows that nobody has measured
abbrev pub rows : List ℕ
rows = 0 ∷ 0 ∷ 0 ∷ 0 ∷ 0 ∷ 0 ∷ 0 ∷ 0 ∷ 0 ∷ 0 ∷ 0 ∷ 0 ∷ 0 ∷ 0 ∷ 0 ∷ 0 ∷ []

abbrev pub first_board : Board
first_board = closed_board rows rows rows rows

-- the listing of a schedule
abbrev pub listing : List ℕ → List ℕ
listing input = cond (nat_le (length input) 65536) (listed 0 first_board (lines input)) (whole_refused Length)
