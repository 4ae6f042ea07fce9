-- Cases of what the questions that alter nothing tell, and of the check of a state.
use Rattle.std.specs.Prelude.{◌≡◌, ℕ, List, [], ◌∷◌, ◌++◌, map, Some, None, Ok, Err, Option, Result, replicate}
use Rattle.memory.specs.declared.interface.Memory.{Ghosts}
use Rattle.lines.specs.declared.place.Line.TheVariants.{Down28p2, L2, L27p2, L27p5, L28p2}
use Rattle.lines.specs.declared.place.Place.{Place}
use Rattle.lines.specs.declared.place.Place.TheVariants.{Inside, Next, Rest}
use Rattle.lines.specs.declared.place.Right.{Right}
use Rattle.lines.specs.declared.place.Right.TheVariants.{Reading, Writing}
use Rattle.lines.specs.declared.place.Role.{Role}
use Rattle.lines.specs.declared.place.Role.TheVariants.{Reader, Writer}
use Rattle.lines.specs.declared.place.Standing.{Standing}
use Rattle.lines.specs.declared.place.Standing.TheVariants.{Normal, Upgraded}
use Rattle.calls.specs.declared.account.Account.{Account}
use Rattle.calls.specs.declared.record.Record.{Record}
use Rattle.calls.specs.declared.refusal.Refusal.{Refusal}
use Rattle.calls.specs.declared.rule.Rule.{Rule}
use Rattle.calls.specs.Checks.{state_checked}
use Rattle.calls.specs.Refusals.{refusal_number}
use Rattle.calls.specs.Rules.{rule_number}
use Rattle.calls.specs.States.{State}
use Rattle.calls.specs.Steps.{begin}
use Rattle.calls.specs.Told.{account_told, cell_told, costliest_told, place_told, right_told}
use Rattle.lock.specs.Cases.{Comes, ComesFrom, R, W, advances, closed, downgrades, leaves_with, obeyed, reader_in, unmeasured, upgrades, writer_in}
use Rattle.lock.specs.Runs.{Made}

-- a question is refused with this number
abbrev pub Refuses : {A : Type 0} → Result A Refusal → ℕ → Type 0
Refuses r n = (e : Refusal) × (r ≡ Err e) × (refusal_number e ≡ n)

-- account, place and right of task t are told
abbrev pub TellsTask : State → ℕ → Account → Place → Option Right → Type 0
TellsTask z t a p w = (account_told z t ≡ Ok a) × (place_told z t ≡ Ok p) × (right_told z t ≡ Ok w)

-- each of these three is refused with this number
abbrev pub RefusesTask : State → ℕ → ℕ → Type 0
RefusesTask z t n = Refuses (account_told z t) n × Refuses (place_told z t) n × Refuses (right_told z t) n

-- the numbers of the seven cells are told
abbrev pub TellsCells : State → List ℕ → Type 0
TellsCells z cells = map (λ c. cell_told z c) (0 ∷ 1 ∷ 2 ∷ 3 ∷ 4 ∷ 5 ∷ 6 ∷ []) ≡ map (λ n. Ok n) cells

-- the account of a task that has finished no attempt, and has neither upgraded nor downgraded
abbrev pub first_cost : ℕ → Account
first_cost n = record { cost = n; u = 0; g = 0; total = 0; finished = 0 }

-- reader 1 is inside, and writer 2 before line 2
abbrev pub reader_and_writer : List Made
reader_and_writer = reader_in 1 ++ obeyed (begin 2) ∷ advances 2 2

-- reader 1 has left, and in its second attempt it is upgraded, downgrades and is upgraded again
abbrev pub second_attempt : List Made
second_attempt =
    reader_in 1 ++ leaves_with Reading 1 ++ advances 4 1 ++ reader_in 1 ++ upgrades 1 ++ advances 4 1
    ++ downgrades 1 ++ advances 1 1 ++ upgrades 1 ++ advances 4 1

pub record QuestionCases {B : Type 0} (mem : Ghosts B) : Type 0 where
  pub shut :
      ComesFrom mem (closed unmeasured) []
      (λ z. RefusesTask z 1 10 × Refuses (costliest_told z) 10 × Refuses (cell_told z 0) 10 × Refuses (cell_told z 7) 10)
  pub reader_costs_most :
      Comes mem unmeasured (R ∷ W ∷ []) reader_and_writer
      (λ z. TellsTask z 1 (first_cost 7) Inside (Some Reading) × TellsTask z 2 (first_cost 1) (Next L2) None
      × (costliest_told z ≡ Ok 1))
  pub writer_costs_most :
      Comes mem unmeasured (R ∷ W ∷ []) (writer_in 2)
      (λ z. TellsTask z 1 (first_cost 0) Rest None × TellsTask z 2 (first_cost 10) Inside (Some Writing)
      × (costliest_told z ≡ Ok 2))
  -- of equals the lowest
  pub equal_costs :
      Comes mem unmeasured (R ∷ R ∷ R ∷ []) (obeyed (begin 3) ∷ obeyed (begin 2) ∷ [])
      (λ z. costliest_told z ≡ Ok 2)
  pub second_account :
      Comes mem unmeasured (R ∷ []) second_attempt
      (λ z. TellsTask z 1 (record { cost = 15; u = 2; g = 1; total = 10; finished = 1 }) Inside (Some Writing))
  pub cells :
      Comes mem unmeasured (R ∷ W ∷ []) (writer_in 2 ++ leaves_with Writing 2 ++ advances 2 2)
      (λ z. TellsCells z (0 ∷ 1 ∷ 1 ∷ 2 ∷ 1 ∷ 0 ∷ 0 ∷ []) × Refuses (cell_told z 7) 2)
  pub no_task : Comes mem unmeasured (R ∷ W ∷ []) [] (λ z. RefusesTask z 0 20 × RefusesTask z 3 20)

-- these cells and tasks break the rule with this number, and none with a lower one
abbrev pub Breaks : List ℕ → List Record → ℕ → Type 0
Breaks cells tasks n = (k : Rule) × (state_checked cells tasks ≡ Ok (Some k)) × (rule_number k ≡ n)

-- they break none
abbrev pub BreaksNone : List ℕ → List Record → Type 0
BreaksNone cells tasks = state_checked cells tasks ≡ Ok None

-- a task at this place
abbrev pub task_at : Role → Place → Standing → Record
task_at o p s =
    record {
      track = record { role = o; place = p; standing = s; prev = 0; curr = 0; d = 0; x = 0 };
      account = first_cost 0;
      out = None;
    }

-- the tasks of the cases, by role and place

abbrev pub resting : Record
resting = task_at Reader Rest Normal

abbrev pub reading : Record
reading = task_at Reader Inside Normal

abbrev pub writing : Record
writing = task_at Writer Inside Normal

abbrev pub upgraded : Record
upgraded = task_at Reader Inside Upgraded

-- States that are written down; the cells are C, D, Gate, X, Permit, U and V.
pub record CheckCases : Type 0 where
  pub no_tasks : Refuses (state_checked (0 ∷ 0 ∷ 0 ∷ 1 ∷ 1 ∷ 0 ∷ 0 ∷ []) []) 12
  pub tasks_65 : Refuses (state_checked (0 ∷ 0 ∷ 0 ∷ 1 ∷ 1 ∷ 0 ∷ 0 ∷ []) (replicate 65 resting)) 12
  pub tasks_64 : BreaksNone (0 ∷ 0 ∷ 0 ∷ 1 ∷ 1 ∷ 0 ∷ 0 ∷ []) (replicate 64 resting)
  -- each cell at the end of its range, and one above it
  pub greatest : BreaksNone (1 ∷ 1 ∷ 1 ∷ 1 ∷ 1 ∷ 2 ∷ 1 ∷ []) (upgraded ∷ [])
  pub above_C : Breaks (2 ∷ 1 ∷ 1 ∷ 1 ∷ 1 ∷ 2 ∷ 1 ∷ []) (upgraded ∷ []) 1
  pub above_D : Breaks (1 ∷ 2 ∷ 1 ∷ 1 ∷ 1 ∷ 2 ∷ 1 ∷ []) (upgraded ∷ []) 1
  pub above_Gate : Breaks (1 ∷ 1 ∷ 2 ∷ 1 ∷ 1 ∷ 2 ∷ 1 ∷ []) (upgraded ∷ []) 1
  pub above_X : Breaks (1 ∷ 1 ∷ 1 ∷ 2 ∷ 1 ∷ 2 ∷ 1 ∷ []) (upgraded ∷ []) 1
  pub above_Permit : Breaks (1 ∷ 1 ∷ 1 ∷ 1 ∷ 2 ∷ 2 ∷ 1 ∷ []) (upgraded ∷ []) 1
  pub above_U : Breaks (0 ∷ 1 ∷ 1 ∷ 1 ∷ 1 ∷ 3 ∷ 1 ∷ []) (resting ∷ []) 1
  pub above_V : Breaks (1 ∷ 1 ∷ 1 ∷ 1 ∷ 1 ∷ 2 ∷ 2 ∷ []) (upgraded ∷ []) 1
  -- a reader inside is counted, and a normal writer inside is not
  pub reader_not_in_C : Breaks (0 ∷ 0 ∷ 0 ∷ 1 ∷ 1 ∷ 0 ∷ 0 ∷ []) (reading ∷ []) 2
  pub writer_in_C : Breaks (1 ∷ 0 ∷ 0 ∷ 0 ∷ 1 ∷ 0 ∷ 0 ∷ []) (writing ∷ []) 2
  -- beside a writer: a reader inside, and one before line 28.2 while it downgrades, but not while it leaves
  pub beside_writer : Breaks (1 ∷ 0 ∷ 0 ∷ 0 ∷ 1 ∷ 0 ∷ 0 ∷ []) (writing ∷ reading ∷ []) 3
  pub beside_downgrading :
      Breaks (1 ∷ 0 ∷ 0 ∷ 0 ∷ 1 ∷ 2 ∷ 0 ∷ []) (writing ∷ task_at Reader (Next Down28p2) Normal ∷ []) 3
  pub beside_leaving :
      BreaksNone (1 ∷ 0 ∷ 0 ∷ 0 ∷ 1 ∷ 2 ∷ 0 ∷ []) (writing ∷ task_at Reader (Next L28p2) Normal ∷ [])
  pub two_upgrading :
      Breaks (2 ∷ 0 ∷ 0 ∷ 1 ∷ 1 ∷ 1 ∷ 1 ∷ [])
      (task_at Reader (Next L27p2) Normal ∷ task_at Reader (Next L27p5) Normal ∷ []) 4
  pub upgraded_without_U : Breaks (1 ∷ 0 ∷ 0 ∷ 1 ∷ 1 ∷ 1 ∷ 1 ∷ []) (upgraded ∷ []) 5
  pub U_without_upgraded : Breaks (0 ∷ 0 ∷ 0 ∷ 1 ∷ 1 ∷ 2 ∷ 0 ∷ []) (resting ∷ []) 5
  pub writer_with_X : Breaks (0 ∷ 0 ∷ 0 ∷ 1 ∷ 1 ∷ 0 ∷ 0 ∷ []) (writing ∷ []) 6
  pub writer_without_X : BreaksNone (0 ∷ 0 ∷ 0 ∷ 0 ∷ 1 ∷ 0 ∷ 0 ∷ []) (writing ∷ [])
  -- rules 2, 3, 5 and 6 are broken
  pub lowest : Breaks (0 ∷ 0 ∷ 0 ∷ 1 ∷ 1 ∷ 2 ∷ 0 ∷ []) (writing ∷ reading ∷ []) 2
