-- Laws of whole schedules.
use Rattle.std.specs.Prelude.{◌≡◌, ℕ, ◌≤◌, List, [], ◌∷◌, ◌++◌, length}
use Rattle.script.specs.Calls.{parse}
use Rattle.script.specs.Cuts.{lines}
use Rattle.schedule.specs.Desks.{Board}
use Rattle.schedule.specs.Listing.{numbered}
use Rattle.schedule.specs.Meaning.{first_board, listing}
use Rattle.schedule.specs.Replies.{Heard, replied, replies}

-- the listing is what its lines come to, with their numbers
abbrev pub Numbered : Type 0
Numbered = (input : List ℕ) → length input ≤ 65536 → listing input ≡ numbered 0 (replies first_board (lines input))

-- the listing of a schedule cut at a line end is how the listing of the whole begins
abbrev pub Prefix : Type 0
Prefix = (cut more : List ℕ) → length (cut ++ 10 ∷ more) ≤ 65536 → (rest : List ℕ) × (listing (cut ++ 10 ∷ more) ≡ listing (cut ++ 10 ∷ []) ++ rest)

-- a line that comes to r at every board, and leaves the board as it was
abbrev pub IsQuiet : List ℕ → Heard → Type 0
IsQuiet l r = (b : Board) → replied (parse l) b ≡ (r, b)

-- a blank line and a note are quiet
pub record QuietLines : Type 0 where
  pub empty : (r : Heard) × IsQuiet [] r
  pub noted : (text : List ℕ) → (r : Heard) × IsQuiet (35 ∷ text) r

-- a quiet line changes no other answer: those before and after it are as they would be without it
abbrev pub Undisturbed : Type 0
Undisturbed =
    (before after : List (List ℕ)) (l : List ℕ) (r : Heard) → IsQuiet l r →
    (first later : List Heard) × (replies first_board (before ++ after) ≡ first ++ later) × (replies first_board (before ++ l ∷ after) ≡ first ++ r ∷ later) × (length first ≡ length before)
