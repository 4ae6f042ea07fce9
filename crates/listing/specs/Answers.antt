-- What a listing tells of an answer.
use Rattle.std.specs.Prelude.{ℕ, List, [], ◌∷◌, ◌++◌, Some, None, decimal, Option}
use Rattle.listing.specs.declared.answer.Answer.{Answer}
use Rattle.listing.specs.declared.answer.Answer.TheVariants.{Opened, Moved, Row, Refused}
use Rattle.listing.specs.declared.answer.Place.{Place}
use Rattle.listing.specs.declared.answer.Place.TheVariants.{Rest, Reading, Writing, At}

-- " ", "ok ", "no " and the end of a line
abbrev pub space : List ℕ
space = 32 ∷ []

abbrev pub ok : List ℕ
ok = 111 ∷ 107 ∷ 32 ∷ []

abbrev pub no : List ℕ
no = 110 ∷ 111 ∷ 32 ∷ []

abbrev pub newline : List ℕ
newline = 10 ∷ []

-- - at rest, r or w inside, else ten times the line
abbrev pub place : Place → List ℕ
place Rest = 45 ∷ []
place Reading = 114 ∷ []
place Writing = 119 ∷ []
place (At n) = decimal n

-- "absent", or the thickness
abbrev pub thickness : Option ℕ → List ℕ
thickness None = 97 ∷ 98 ∷ 115 ∷ 101 ∷ 110 ∷ 116 ∷ []
thickness (Some n) = decimal n

abbrev pub told : Answer → List ℕ
told (Opened tasks) = ok ++ decimal tasks
told (Moved p cost) = ok ++ place p ++ space ++ decimal cost
told (Row p cost row) = ok ++ place p ++ space ++ decimal cost ++ space ++ thickness row
told (Refused why) = no ++ decimal why
