-- How a case is said: calls with their answers, which are a run of lock 1 over the cache layer, and what holds at its end.
use Rattle.std.specs.Prelude.{◌≡◌, ℕ, zero, suc, false, List, [], ◌∷◌, Ok, Option, replicate}
use Rattle.memory.specs.declared.interface.Memory.{Ghosts}
use Rattle.memory.specs.Cells.{zeros}
use Rattle.cache.specs.declared.layer.Cache.{Cache}
use Rattle.cache.specs.Layers.{cached}
use Rattle.lines.specs.declared.place.Place.{Place}
use Rattle.lines.specs.declared.place.Right.{Right}
use Rattle.lines.specs.declared.place.Right.TheVariants.{Reading, Writing}
use Rattle.lines.specs.declared.place.Standing.{Standing}
use Rattle.calls.specs.declared.refusal.Refusal.{Refusal}
use Rattle.calls.specs.Opening.{Opens, open_refusal}
use Rattle.calls.specs.States.{State, record_of}
use Rattle.calls.specs.Steps.{Call, advance, begin, done, downgrade, gives, hands, leave, no, read, take, upgrade}
use Rattle.lock.specs.Runs.{Made, Run}

-- lock 1 before it is opened, over these rows
abbrev pub closed : List ℕ → State
closed rows = record { number = 1; opened = false; cells = zeros; waiting = []; records = []; table = rows }

-- from the state s, over a memory with its cells and no copies, these calls with these answers are a run, and P holds of the state that
-- they leave
pub record ComesFrom {B : Type 0} (mem : Ghosts B) (s : State) (es : List Made) (P : State → Type 0) : Type 0 where
  pub memory : Cache B
  pub its_cells : mem.cells memory.below ≡ s.cells
  pub no_copies : memory.copies.masks ≡ zeros
  pub end : State
  pub end_memory : Cache B
  pub run : Run (cached mem).does mem.limit es s memory end end_memory
  pub holds : P end

-- lock 1 over a new memory and these rows is opened with these roles; then these calls with these answers are a run, and P holds of the
-- state that they leave
pub record Comes {B : Type 0} (mem : Ghosts B) (rows roles : List ℕ) (es : List Made) (P : State → Type 0) : Type 0 where
  pub memory : Cache B
  pub new_cells : mem.cells memory.below ≡ zeros
  pub no_copies : memory.copies.masks ≡ zeros
  pub start : State
  pub start_memory : Cache B
  pub opens : Opens (cached mem).does (open_refusal mem.limit (mem.top memory.below) (closed rows) roles) (closed rows) memory roles (Ok tt) start start_memory
  pub end : State
  pub end_memory : Cache B
  pub run : Run (cached mem).does mem.limit es start start_memory end end_memory
  pub holds : P end

-- where task t is, how it stands, and what its attempt has cost
abbrev pub Stands : State → ℕ → Place → Standing → ℕ → Type 0
Stands z t p s cost = ((record_of z t).track.place ≡ p) × ((record_of z t).track.standing ≡ s) × ((record_of z t).account.cost ≡ cost)

-- the roles by their bytes

abbrev pub R : ℕ
R = 82

abbrev pub W : ℕ
W = 87

-- two rows that nobody has measured
abbrev pub unmeasured : List ℕ
unmeasured = 0 ∷ 0 ∷ []

-- one call, with its answer

abbrev pub obeyed : Call → Made
obeyed c = record { call = c; answer = done }

abbrev pub refused : Call → Refusal → Made
refused c e = record { call = c; answer = no e }

-- take hands out a pass of lock 1
abbrev pub handed : Right → ℕ → Made
handed w t = record { call = take w t; answer = hands w 1 t }

-- a read with such a pass gives a thickness, or absence
abbrev pub told : Right → ℕ → ℕ → Option ℕ → Made
told w t row o = record { call = read w 1 t row; answer = gives o }

-- several calls of task t

abbrev pub times : ℕ → Made → List Made
times zero e = []
times (suc n) e = e ∷ times n e

abbrev pub advances : ℕ → ℕ → List Made
advances n t = times n (obeyed (advance t))

-- a reader and a writer come in where nobody else is in the way
abbrev pub reader_in : ℕ → List Made
reader_in t = obeyed (begin t) ∷ advances 7 t

abbrev pub writer_in : ℕ → List Made
writer_in t = obeyed (begin t) ∷ advances 13 t

-- a task inside leaves with a pass for its right: the first line of its way out is done
abbrev pub leaves_with : Right → ℕ → List Made
leaves_with w t = handed w t ∷ obeyed (leave w 1 t) ∷ []

-- a task inside asks for the writing right: line 27.1 is done
abbrev pub upgrades : ℕ → List Made
upgrades t = handed Reading t ∷ obeyed (upgrade 1 t) ∷ []

-- a task inside gives the writing right up: the first line of that is done
abbrev pub downgrades : ℕ → List Made
downgrades t = handed Writing t ∷ obeyed (downgrade 1 t) ∷ []

-- so many readers
abbrev pub readers : ℕ → List ℕ
readers n = replicate n R
