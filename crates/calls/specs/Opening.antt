-- How a lock is opened: its questions, what task 1 writes, and the state then.
use Rattle.std.specs.Prelude.{◌≡◌, ℕ, Bool, true, cond, not, ◌&&◌, List, [], ◌∷◌, map, length, Some, None, Ok, Err, Option, Result, ◌==◌, nat_le}
use Rattle.memory.specs.declared.operation.Operation.{Operation}
use Rattle.memory.specs.declared.operation.Operation.TheVariants.{Write}
use Rattle.memory.specs.Calls.{Doing}
use Rattle.lines.specs.declared.place.Role.{Role as TaskRole}
use Rattle.lines.specs.Roles.{is_role, role_of}
use Rattle.lines.specs.Lines.{C, D, Gate, X, Permit, U, V}
use Rattle.calls.specs.declared.refusal.Refusal.{Refusal}
use Rattle.calls.specs.declared.refusal.Refusal.TheVariants.{Opened, Roles, Role, Limit, Ceiling, Queued}
use Rattle.calls.specs.declared.record.Record.{Record}
use Rattle.calls.specs.Records.{fresh}
use Rattle.calls.specs.States.{State}
use Rattle.calls.specs.Questions.{ask}

-- the role that a byte says, or why it is refused
abbrev pub role_told : ℕ → Result TaskRole Refusal
role_told b = cond (is_role b) (Ok (role_of b)) (Err Role)

-- each byte is a role
abbrev pub are_roles : List ℕ → Bool
are_roles [] = true
are_roles (b ∷ bs) = is_role b && are_roles bs

-- the record of a task that has this role and never began
abbrev pub enlisted : ℕ → Record
enlisted b = fresh (role_of b)

-- the questions of open, for a memory with this limit and this ceiling
abbrev pub open_refusal : ℕ → ℕ → State → List ℕ → Option Refusal
open_refusal limit ceiling s roles =
    ask (not s.opened) Opened (
    ask (nat_le 1 (length roles)) Roles (ask (nat_le (length roles) 64) Roles (
    ask (are_roles roles) Role (
    ask (nat_le 2 limit) Limit (ask (nat_le (length roles) limit) Limit (
    ask (nat_le ceiling 1000) Ceiling (
    ask (length s.waiting == 0) Queued None)))))))

-- what task 1 writes, charged to nobody
abbrev pub opening_writes : List Operation
opening_writes = Write C 0 ∷ Write D 0 ∷ Write Gate 0 ∷ Write X 1 ∷ Write Permit 1 ∷ Write U 0 ∷ Write V 0 ∷ []

-- task 1 does the operations in this order
abbrev pub Wrote : {M : Type 0} → Doing M → M → List Operation → M → Type 0
Wrote does m [] n = n ≡ m
Wrote {M} does m (op ∷ ops) n = (k : M) × (share : ℕ) × does m 1 op share k × Wrote does k ops n

-- the cells of a lock just opened
abbrev pub opening_cells : List ℕ
opening_cells = 0 ∷ 0 ∷ 0 ∷ 1 ∷ 1 ∷ 0 ∷ 0 ∷ []

-- open to tasks of these roles, all at rest
abbrev pub opened_to : List ℕ → State → State
opened_to roles s = record { number = s.number; opened = true; cells = opening_cells; waiting = s.waiting; records = map enlisted roles; table = s.table }

-- open with these roles takes the state from s to z and the memory from m to n
abbrev pub Opens : {M : Type 0} → Doing M → Option Refusal → State → M → List ℕ → Result (Unit {0}) Refusal → State → M → Type 0
Opens does None s m roles r z n = (r ≡ Ok tt) × Wrote does m opening_writes n × (z ≡ opened_to roles s)
Opens does (Some e) s m roles r z n = (r ≡ Err e) × (z ≡ s) × (n ≡ m)
