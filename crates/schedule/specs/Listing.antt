-- The bytes of a listing's lines.
use Rattle.std.specs.Prelude.{ℕ, ◌+◌, List, [], ◌∷◌, ◌++◌}
use Rattle.script.specs.declared.refusal.Refusal.{Refusal as LineRefusal}
use Rattle.script.specs.Refusals.{refusal_number as line_number}
use Rattle.listing.specs.declared.answer.Answer.TheVariants.{Refused}
use Rattle.listing.specs.Listing.{shown, noted}
use Rattle.schedule.specs.Replies.{Heard, nothing, noting, answering}

-- the bytes of the line n, by what it came to
abbrev pub reply_bytes : ℕ → Heard → List ℕ
reply_bytes n nothing = []
reply_bytes n (noting text) = noted n text
reply_bytes n (answering a) = shown n a

-- the bytes of all these, where n lines went before
abbrev pub numbered : ℕ → List Heard → List ℕ
numbered n [] = []
numbered n (h ∷ hs) = reply_bytes (n + 1) h ++ numbered (n + 1) hs

-- the one line of an input that is refused as a whole
abbrev pub whole_refused : LineRefusal → List ℕ
whole_refused e = shown 0 (Refused (line_number e))
