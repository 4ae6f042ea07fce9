-- Lines done one after another, and what of their listing is written.
use Rattle.std.specs.Prelude.{◌≡◌, ℕ, ◌+◌, ◌⊎◌, true, List, [], ◌++◌, length, MatchResult, Option, Result, is_some}
use Rattle.calls.specs.declared.refusal.Refusal.{Refusal as LockRefusal}
use Rattle.script.specs.declared.reader.Reader.{Reader}
use Rattle.script.specs.Calls.{Ask}
use Rattle.script.specs.Reading.{to_come}
use Rattle.listing.specs.declared.answer.Answer.{Answer}
use Rattle.listing.specs.declared.output.Output.{Output}
use Rattle.listing.specs.Outputs.{held}
use Rattle.streams.specs.Streams.{Passed, Writes}
use Rattle.schedule.specs.declared.schedule.Schedule.{Schedule}
use Rattle.schedule.specs.Listing.{numbered}
use Rattle.schedule.specs.Progress.{Progress, after, bytes_of, progress, whole_told}
use Rattle.schedule.specs.Replies.{AllObeyed, Heard}

-- Some of the lines that r has to hand out are obeyed, which leads from s to t. Of the bytes `before`, and of the lines of the listing
-- behind them, a part is written, which leads from a to c, and `rest` is not.
pub record Lists {S : Type 0} (does : S → Ask → Result Answer LockRefusal → S → Type 0) (s : S) (r : Reader) (before : List ℕ) (a : Option (List ℕ)) (t : S) (q : Reader) (rest : List ℕ) (c : Option (List ℕ)) : Type 0 where
  pub done : List (List ℕ)
  pub replies : List Heard
  pub lines : to_come r ≡ done ++ to_come q
  pub counted : q.number ≡ r.number + length done
  pub obeyed : AllObeyed does s done replies t
  pub passed : Passed (before ++ numbered r.number replies) a rest c

-- The same of a schedule, which is run from p to q: why its input is refused, if it is, is told before its lines.
pub record ListsOn (p : Progress) (before : List ℕ) (a : Option (List ℕ)) (q : Progress) (rest : List ℕ) (c : Option (List ℕ)) : Type 0 where
  pub done : List (List ℕ)
  pub left : List (List ℕ)
  pub lines : p.left ≡ done ++ left
  pub reached : q ≡ after done left (whole_told p)
  pub passed : Passed (before ++ bytes_of done p) a rest c

-- the output holds `rest`; where a write failed that is lost, and none is held
abbrev pub HeldOrLost : {K E : Type 0} → Result (Unit {0}) E → List ℕ → Output K → Type 0
HeldOrLost e rest p = MatchResult e (λ _. held p ≡ rest) (λ _. held p ≡ [])

module _ {K E : Type 0} (contents : K → Option (List ℕ)) where
  -- through an output
  abbrev pub ListsInto : {S : Type 0} → (S → Ask → Result Answer LockRefusal → S → Type 0) → S → Reader → Output K → Result (Unit {0}) E → S → Reader → Output K → Type 0
  ListsInto does s r o e t q p = (rest : List ℕ) × Lists does s r (held o) (contents o.sink) t q rest (contents p.sink) × HeldOrLost e rest p

  abbrev pub ListsOnInto : Progress → Output K → Result (Unit {0}) E → Progress → Output K → Type 0
  ListsOnInto p o e q k = (rest : List ℕ) × ListsOn p (held o) (contents o.sink) q rest (contents k.sink) × HeldOrLost e rest k

  -- All that is left of the listing is written behind what was held, and all lines are done; where a write fails, a front of that. Then
  -- some of the lines are done, and no byte of any other is written. No byte is held, whatever comes of it.
  pub record Prints (s : Schedule) (o : Output K) (e : Result (Unit {0}) E) (t : Schedule) (p : Output K) : Type 0 where
    pub writes : Writes (held o ++ bytes_of (to_come s.reader) (progress s)) (contents o.sink) (contents p.sink) e
    pub reached :
        MatchResult e
        (λ _. progress t ≡ after (to_come s.reader) [] (whole_told (progress s)))
        (λ _. (rest : List ℕ) × ListsOn (progress s) (held o) (contents o.sink) (progress t) rest (contents p.sink))
    pub empty : held p ≡ []

-- no line is left for whoever answers now
abbrev pub IsOver : Schedule → Type 0
IsOver s = (is_some s.desk.now.locks.chosen ≡ true) ⊎ (to_come s.reader ≡ [])
