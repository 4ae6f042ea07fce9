-- The bytes of one line of a listing.
use Rattle.std.specs.Prelude.{ℕ, List, ◌++◌, decimal}
use Rattle.listing.specs.declared.answer.Answer.{Answer}
use Rattle.listing.specs.Answers.{told, space, newline}

-- what the line n begins with
abbrev pub heading : ℕ → List ℕ
heading n = decimal n ++ space

-- the line n, where it holds a note
abbrev pub noted : ℕ → List ℕ → List ℕ
noted n text = heading n ++ text ++ newline

-- where a call gave an answer
abbrev pub shown : ℕ → Answer → List ℕ
shown n answer = noted n (told answer)
