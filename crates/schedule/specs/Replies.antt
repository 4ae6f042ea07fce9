-- What a line of a schedule comes to: nothing for a blank line, the text of a note, or what is answered. A refusal is one more answer,
-- which a listing tells by its number.
use Rattle.std.specs.Prelude.{◌≡◌, ℕ, ◌≤◌, List, [], ◌∷◌, length, Ok, Err, Result}
use Rattle.calls.specs.declared.refusal.Refusal.{Refusal as LockRefusal}
use Rattle.calls.specs.Refusals.{refusal_number as lock_number}
use Rattle.script.specs.declared.refusal.Refusal.{Refusal as LineRefusal}
use Rattle.script.specs.Calls.{Ask, Said, blank, note, call, parse}
use Rattle.script.specs.Refusals.{refusal_number as line_number}
use Rattle.listing.specs.declared.answer.Answer.{Answer}
use Rattle.listing.specs.declared.answer.Answer.TheVariants.{Refused}
use Rattle.schedule.specs.declared.refusal.Refusal.{Refusal}
use Rattle.schedule.specs.declared.replies.Reply.{Reply}
use Rattle.schedule.specs.declared.replies.Reply.TheVariants as reply
use Rattle.schedule.specs.Desks.{Board, board_tells}
use Rattle.schedule.specs.Refusals.{refusal_number}

pub data Heard : Type 0 where
  nothing : Heard
  noting : List ℕ → Heard
  answering : Answer → Heard

-- as the code has it: the text of a note is a part of the schedule, and a refusal an error
abbrev pub heard : Reply → Heard
heard reply.Nothing = nothing
heard (reply.Note text) = noting text.now
heard (reply.Answered a) = answering a

abbrev pub heard_so : Result Reply Refusal → Heard
heard_so (Ok r) = heard r
heard_so (Err e) = answering (Refused (refusal_number e))

-- the text of a note is no longer than its line
abbrev pub IsWithin : ℕ → Heard → Type 0
IsWithin n nothing = Unit {0}
IsWithin n (noting text) = length text ≤ n
IsWithin n (answering a) = Unit {0}

-- what a lock tells of a call
abbrev pub call_heard : Result Answer LockRefusal → Heard
call_heard (Ok a) = answering a
call_heard (Err e) = answering (Refused (lock_number e))

-- a line, as it reads, obeyed at the board: what it comes to, and the board then
abbrev pub replied : Result Said LineRefusal → Board → Heard × Board
replied (Err e) b = (answering (Refused (line_number e)), b)
replied (Ok blank) b = (nothing, b)
replied (Ok (note text)) b = (noting text, b)
replied (Ok (call a)) b = let r = board_tells a b in (call_heard r.0, r.1)

-- what each line comes to, one after another, and the board after them
abbrev pub replies : Board → List (List ℕ) → List Heard
replies b [] = []
replies b (l ∷ ls) = (replied (parse l) b).0 ∷ replies (replied (parse l) b).1 ls

abbrev pub board_after : Board → List (List ℕ) → Board
board_after b [] = b
board_after b (l ∷ ls) = board_after (replied (parse l) b).1 ls

-- The same of whatever answers calls in its way: does tells what it is after a call.
module _ {S : Type 0} (does : S → Ask → Result Answer LockRefusal → S → Type 0) where
  -- the line that reads as given leads from s to t and comes to h
  abbrev pub Obeyed : S → Result Said LineRefusal → Heard → S → Type 0
  Obeyed s (Err e) h t = (h ≡ answering (Refused (line_number e))) × (t ≡ s)
  Obeyed s (Ok blank) h t = (h ≡ nothing) × (t ≡ s)
  Obeyed s (Ok (note text)) h t = (h ≡ noting text) × (t ≡ s)
  Obeyed s (Ok (call a)) h t = (o : Result Answer LockRefusal) × does s a o t × (h ≡ call_heard o)

  -- the lines lead from s to t and come to these
  abbrev pub AllObeyed : S → List (List ℕ) → List Heard → S → Type 0
  AllObeyed s [] hs t = (hs ≡ []) × (t ≡ s)
  AllObeyed s (l ∷ ls) hs t = (h : Heard) × (more : List Heard) × (hs ≡ h ∷ more) × (m : S) × Obeyed s (parse l) h m × AllObeyed m ls more t
