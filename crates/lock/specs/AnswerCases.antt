-- Runs in which each answer of the lock occurs, and each refusal but those of opening, which are values of `open_refusal`.
use Rattle.std.specs.Prelude.{◌≡◌, ℕ, true, false, List, [], ◌∷◌, ◌++◌, Some, None}
use Rattle.memory.specs.declared.interface.Memory.{Ghosts}
use Rattle.memory.specs.Cells.{zeros}
use Rattle.lines.specs.declared.place.Place.{Place}
use Rattle.lines.specs.declared.place.Place.TheVariants.{Inside, Rest}
use Rattle.lines.specs.declared.place.Right.TheVariants.{Reading, Writing}
use Rattle.lines.specs.declared.place.Role.TheVariants.{Reader}
use Rattle.lines.specs.declared.place.Standing.{Standing}
use Rattle.lines.specs.declared.place.Standing.TheVariants.{Downgraded, Normal}
use Rattle.calls.specs.declared.account.Account.{Account}
use Rattle.calls.specs.declared.refusal.Refusal.TheVariants.{Busy, Ceiling, Finished, Limit, NoPass, NoRow, NoTask, OffLine, Opened, OtherLock, OtherRight, Outside, PassOut, Queued, Role, Roles, Shut, Stored, Thickness, Upgrades}
use Rattle.calls.specs.Opening.{open_refusal, opened_to, opening_cells}
use Rattle.calls.specs.States.{State, record_of}
use Rattle.calls.specs.Steps.{advance, begin, downgrade, lay_back, leave, put, read, take, upgrade}
use Rattle.lock.specs.Cases.{Comes, ComesFrom, R, Stands, W, advances, closed, downgrades, handed, leaves_with, obeyed, reader_in, readers, refused, told, unmeasured, upgrades, writer_in}
use Rattle.lock.specs.Runs.{Made}

-- a closed lock on whose queue task 1 waits
abbrev pub with_queue : State
with_queue = record { number = 1; opened = false; cells = zeros; waiting = 1 ∷ []; records = []; table = unmeasured }

-- What open refuses, by the memory's limit and ceiling, the lock and the roles: 11 to 16. Words have the limit 4294967295, Packed the
-- limit 15, and the ceiling of both is 1.
pub record OpenCases : Type 0 where
  pub opened : open_refusal 15 1 (opened_to (readers 1) (closed unmeasured)) (readers 1) ≡ Some Opened
  pub no_roles : open_refusal 15 1 (closed unmeasured) [] ≡ Some Roles
  pub roles_65 : open_refusal 4294967295 1 (closed unmeasured) (readers 65) ≡ Some Roles
  pub roles_64 : open_refusal 4294967295 1 (closed unmeasured) (readers 64) ≡ None
  pub role_X : open_refusal 15 1 (closed unmeasured) (R ∷ 88 ∷ []) ≡ Some Role
  pub roles_15 : open_refusal 15 1 (closed unmeasured) (readers 15) ≡ None
  pub roles_16 : open_refusal 15 1 (closed unmeasured) (readers 16) ≡ Some Limit
  pub limit_1 : open_refusal 1 1 (closed unmeasured) (readers 1) ≡ Some Limit
  pub ceiling_1000 : open_refusal 15 1000 (closed unmeasured) (readers 1) ≡ None
  pub ceiling_1001 : open_refusal 15 1001 (closed unmeasured) (readers 1) ≡ Some Ceiling
  pub queue_of_1 : open_refusal 15 1 with_queue (readers 1) ≡ Some Queued

-- each call on a closed lock
abbrev pub each_call_shut : List Made
each_call_shut =
    refused (begin 1) Shut ∷ refused (advance 1) Shut ∷ refused (take Reading 1) Shut ∷ refused (lay_back Reading 1 1) Shut
    ∷ refused (upgrade 1 1) Shut ∷ refused (downgrade 1 1) Shut ∷ refused (leave Reading 1 1) Shut ∷ refused (read Reading 1 1 0) Shut
    ∷ refused (put 1 1 0 12) Shut ∷ []

-- calls that the number, the place or the pass of their task forbids: 20, 21, 23, 24, 25, 26
abbrev pub task_refusals : List Made
task_refusals =
    refused (begin 0) NoTask ∷ refused (begin 2) NoTask ∷ refused (advance 1) OffLine ∷ refused (take Reading 1) Outside
    ∷ obeyed (begin 1) ∷ refused (begin 1) Busy ∷ refused (take Reading 1) Outside ∷ advances 7 1
    ++ refused (begin 1) Busy ∷ refused (advance 1) OffLine ∷ refused (take Writing 1) OtherRight ∷ handed Reading 1
    ∷ refused (take Reading 1) PassOut ∷ []

-- passes that were never handed out, are of another lock or were laid back, and a row that the table has not: 27, 28, 30
abbrev pub pass_refusals : List Made
pass_refusals =
    reader_in 1 ++ refused (leave Reading 1 1) NoPass ∷ handed Reading 1 ∷ refused (leave Reading 2 1) OtherLock
    ∷ refused (downgrade 1 1) NoPass ∷ refused (put 1 1 0 12) NoPass ∷ refused (read Reading 1 1 2) NoRow ∷ told Reading 1 1 None
    ∷ obeyed (lay_back Reading 1 1) ∷ refused (lay_back Reading 1 1) NoPass ∷ refused (upgrade 1 1) NoPass ∷ refused (read Reading 1 1 1) NoPass ∷ []

-- what a writer puts and reads: 31
abbrev pub puts : List Made
puts =
    writer_in 1 ++ handed Writing 1 ∷ refused (put 1 1 0 0) Thickness ∷ refused (put 1 1 0 1000001) Thickness ∷ told Writing 1 0 None
    ∷ obeyed (put 1 1 0 1) ∷ obeyed (put 1 1 1 1000000) ∷ told Writing 1 0 (Some 1) ∷ told Writing 1 1 (Some 1000000) ∷ []

-- writer 2 puts and downgrades, and reader 1 comes in and reads
abbrev pub puts_and_downgrades : List Made
puts_and_downgrades =
    writer_in 2 ++ handed Writing 2 ∷ obeyed (put 1 2 1 12) ∷ obeyed (downgrade 1 2) ∷ advances 2 2 ++ reader_in 1
    ++ handed Reading 1 ∷ told Reading 1 1 (Some 12) ∷ told Reading 1 0 None ∷ []

-- Two states that are written down, since a run there would be too long to compute: lock 1 over two rows, open to one reader, which is
-- at this place, stands so and has this account.
abbrev pub with_reader : List ℕ → Place → Standing → Account → State
with_reader cells p s a =
    record {
      number = 1;
      opened = true;
      cells = cells;
      waiting = [];
      records = record { track = record { role = Reader; place = p; standing = s; prev = 0; curr = 0; d = 0; x = 1 }; account = a; out = None } ∷ [];
      table = unmeasured;
    }

-- it has finished all its attempts but one
abbrev pub last_attempt : State
last_attempt = with_reader opening_cells Rest Normal (record { cost = 8; u = 0; g = 0; total = 7999994; finished = 999999 })

-- it is inside and has one upgrade left, after 999 that it gave up
abbrev pub last_upgrade : State
last_upgrade = with_reader (1 ∷ 0 ∷ 0 ∷ 1 ∷ 1 ∷ 0 ∷ 0 ∷ []) Inside Downgraded (record { cost = 5003; u = 999; g = 999; total = 0; finished = 0 })

pub record AnswerCases {B : Type 0} (mem : Ghosts B) : Type 0 where
  pub shut : ComesFrom mem (closed unmeasured) each_call_shut (λ z. z ≡ closed unmeasured)
  pub by_task : Comes mem unmeasured (R ∷ []) task_refusals (λ z. Stands z 1 Inside Normal 7 × ((record_of z 1).out ≡ Some Reading))
  pub by_pass : Comes mem unmeasured (R ∷ []) pass_refusals (λ z. Stands z 1 Inside Normal 7 × ((record_of z 1).out ≡ None))
  pub by_writer : Comes mem unmeasured (W ∷ []) puts (λ z. z.table ≡ 1 ∷ 1000000 ∷ [])
  pub by_reader : Comes mem unmeasured (R ∷ W ∷ []) puts_and_downgrades (λ z. z.table ≡ 0 ∷ 12 ∷ [])
  -- over rows that hold 5 and 1000001 when the lock is opened: 32
  pub damaged :
      Comes mem (5 ∷ 1000001 ∷ []) (R ∷ [])
      (reader_in 1 ++ handed Reading 1 ∷ told Reading 1 0 (Some 5) ∷ refused (read Reading 1 1 1) Stored ∷ [])
      (λ z. z.table ≡ 5 ∷ 1000001 ∷ [])
  -- 22
  pub finished :
      ComesFrom mem last_attempt (reader_in 1 ++ leaves_with Reading 1 ++ advances 4 1 ++ refused (begin 1) Finished ∷ [])
      (λ z. Stands z 1 Rest Normal 10 × ((record_of z 1).account.finished ≡ 1000000))
  -- 29
  pub upgrades_spent :
      ComesFrom mem last_upgrade
      (upgrades 1 ++ advances 4 1 ++ downgrades 1 ++ advances 1 1 ++ handed Reading 1 ∷ refused (upgrade 1 1) Upgrades ∷ [])
      (λ z. Stands z 1 Inside Downgraded 5009 × ((record_of z 1).account.u ≡ 1000))
