-- What a line of a schedule says.
use Rattle.std.specs.Prelude.{◌≡◌, ℕ, cond, List, [], ◌∷◌, length, drop, Ok, Err, Result, ◌==◌, slice_index}
use Rattle.script.specs.declared.call.MemoryKind.{MemoryKind}
use Rattle.script.specs.declared.call.MemoryKind.TheVariants.{Words, Packed}
use Rattle.script.specs.declared.call.QueueKind.{QueueKind}
use Rattle.script.specs.declared.call.QueueKind.TheVariants.{Ring, Masks}
use Rattle.script.specs.declared.call.Call.{Call}
use Rattle.script.specs.declared.call.Call.TheVariants as calls
use Rattle.script.specs.declared.call.Line.{Line}
use Rattle.script.specs.declared.call.Line.TheVariants as lines
use Rattle.script.specs.declared.refusal.Refusal.{Refusal}
use Rattle.script.specs.declared.refusal.Refusal.TheVariants as why
use Rattle.script.specs.Cuts.{fields}
use Rattle.script.specs.Numbers.{one, two, three}

-- a call, with the roles as bytes
pub data Ask : Type 0 where
  opening : MemoryKind → QueueKind → List ℕ → Ask
  begin : ℕ → Ask
  advance : ℕ → Ask
  upgrade : ℕ → Ask
  downgrade : ℕ → Ask
  leave : ℕ → Ask
  read : (task row : ℕ) → Ask
  put : (task row thickness : ℕ) → Ask

pub data Said : Type 0 where
  blank : Said
  note : List ℕ → Said
  call : Ask → Said

abbrev pub over : {X Y : Type 0} → (X → Y) → Result X Refusal → Result Y Refusal
over f (Ok x) = Ok (f x)
over f (Err e) = Err e

-- the field says w or p
abbrev pub memory_kind : List ℕ → Result MemoryKind Refusal
memory_kind [] = Err why.Fields
memory_kind (c ∷ []) = cond (c == 119) (Ok Words) (cond (c == 112) (Ok Packed) (Err why.Fields))
memory_kind (c ∷ d ∷ ds) = Err why.Fields

-- the field says r or m
abbrev pub queue_kind : List ℕ → Result QueueKind Refusal
queue_kind [] = Err why.Fields
queue_kind (c ∷ []) = cond (c == 114) (Ok Ring) (cond (c == 109) (Ok Masks) (Err why.Fields))
queue_kind (c ∷ d ∷ ds) = Err why.Fields

abbrev pub opens : Result MemoryKind Refusal → Result QueueKind Refusal → List ℕ → Result Ask Refusal
opens (Err e) q roles = Err e
opens (Ok m) (Err e) roles = Err e
opens (Ok m) (Ok q) [] = Err why.Fields
opens (Ok m) (Ok q) (r ∷ roles) = Ok (opening m q (r ∷ roles))

-- a memory, a queue and roles, and nothing else
abbrev pub opened : List (List ℕ) → Result Ask Refusal
opened [] = Err why.Fields
opened (m ∷ []) = Err why.Fields
opened (m ∷ q ∷ []) = Err why.Fields
opened (m ∷ q ∷ roles ∷ []) = opens (memory_kind m) (queue_kind q) roles
opened (m ∷ q ∷ roles ∷ f ∷ fs) = Err why.Fields

-- the call of a task that the letter names: E, S, U or D, else L
abbrev pub task_ask : ℕ → ℕ → Ask
task_ask c t = cond (c == 69) (begin t) (cond (c == 83) (advance t) (cond (c == 85) (upgrade t) (cond (c == 68) (downgrade t) (leave t))))

-- the call that the letter names, with its fields: O, E, S, U, D, L, R or P
abbrev pub called : ℕ → List (List ℕ) → Result Ask Refusal
called c fs =
    cond (c == 79) (opened fs) (cond (c == 69) (over begin (one fs)) (cond (c == 83) (over advance (one fs)) (
    cond (c == 85) (over upgrade (one fs)) (cond (c == 68) (over downgrade (one fs)) (cond (c == 76) (over leave (one fs)) (
    cond (c == 82) (over (λ x. read x.0 x.1) (two fs)) (cond (c == 80) (over (λ x. put x.0 x.1 x.2) (three fs)) (Err why.Letter))))))))

-- the fields after the letter, if a space follows it
abbrev pub arguments : List ℕ → List (List ℕ)
arguments text = cond (slice_index text 1 == 32) (fields (drop 2 text)) []

-- no bytes, a note from # on, or a call
abbrev pub parse : List ℕ → Result Said Refusal
parse text = cond (length text == 0) (Ok blank) (cond (slice_index text 0 == 35) (Ok (note text)) (over call (called (slice_index text 0) (arguments text))))

-- what the code hands out, with the bytes that its parts hold
abbrev pub ask : Call → Ask
ask (calls.Open m q roles) = opening m q roles.now
ask (calls.Begin t) = begin t
ask (calls.Advance t) = advance t
ask (calls.Upgrade t) = upgrade t
ask (calls.Downgrade t) = downgrade t
ask (calls.Leave t) = leave t
ask (calls.Read t row) = read t row
ask (calls.Put t row thickness) = put t row thickness

abbrev pub said : Line → Said
said lines.Blank = blank
said (lines.Note text) = note text.now
said (lines.Call c) = call (ask c)

-- a note is its whole line
abbrev pub Whole : Result Line Refusal → List ℕ → Type 0
Whole (Ok lines.Blank) line = Unit {0}
Whole (Ok (lines.Note text)) line = text.now ≡ line
Whole (Ok (lines.Call c)) line = Unit {0}
Whole (Err e) line = Unit {0}
