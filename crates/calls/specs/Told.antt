-- What the questions that alter nothing answer.
use Rattle.std.specs.Prelude.{ℕ, cond, Some, None, Ok, Err, Option, Result}
use Rattle.memory.specs.declared.refusal.Refusal.{Refusal as MemoryRefusal}
use Rattle.memory.specs.Calls.{cell_shown}
use Rattle.lines.specs.declared.place.Place.{Place}
use Rattle.lines.specs.declared.place.Right.{Right}
use Rattle.lines.specs.Rights.{right_of}
use Rattle.calls.specs.declared.account.Account.{Account}
use Rattle.calls.specs.declared.refusal.Refusal.{Refusal}
use Rattle.calls.specs.declared.refusal.Refusal.TheVariants.{Memory, Shut}
use Rattle.calls.specs.Costs.{costliest_task}
use Rattle.calls.specs.States.{State, record_of}
use Rattle.calls.specs.Questions.{task_refusal}

-- an answer, unless a question before it is answered no
abbrev pub told : {A : Type 0} → Option Refusal → A → Result A Refusal
told None x = Ok x
told (Some e) x = Err e

abbrev pub account_told : State → ℕ → Result Account Refusal
account_told s t = told (task_refusal s t) (record_of s t).account

abbrev pub place_told : State → ℕ → Result Place Refusal
place_told s t = told (task_refusal s t) (record_of s t).track.place

abbrev pub right_told : State → ℕ → Result (Option Right) Refusal
right_told s t = told (task_refusal s t) (right_of (record_of s t).track)

-- a refusal of the memory goes up unchanged
abbrev pub from_memory : {A : Type 0} → Result A MemoryRefusal → Result A Refusal
from_memory (Ok x) = Ok x
from_memory (Err e) = Err (Memory e)

abbrev pub cell_told : State → ℕ → Result ℕ Refusal
cell_told s c = cond s.opened (from_memory (cell_shown s.cells c)) (Err Shut)

-- an open lock has tasks, so only a closed one has no costliest
abbrev pub some_task : Option ℕ → Result ℕ Refusal
some_task None = Err Shut
some_task (Some t) = Ok t

abbrev pub costliest_told : State → Result ℕ Refusal
costliest_told s = cond s.opened (some_task (costliest_task s.records)) (Err Shut)
