-- What the code's results say.
use Rattle.std.specs.Prelude.{◌≡◌, ℕ, Some, None, Ok, Err, Option, Result}
use Rattle.calls.specs.declared.refusal.Refusal.{Refusal}
use Rattle.lines.specs.declared.place.Right.{Right}
use Rattle.calls.specs.Steps.{Answer, done, gives, hands, no}
use Rattle.lock.specs.declared.pass.Kept.{Kept}
use Rattle.lock.specs.declared.pass.Pass.{Pass}

-- a call that gives nothing but that it was obeyed
abbrev pub said : Result (Unit {0}) Refusal → Answer
said (Ok _) = done
said (Err e) = no e

-- questions were asked, and this came of them; P is then known
abbrev pub Asked : Option Refusal → Result (Unit {0}) Refusal → Type 0 → Type 0
Asked o (Ok _) P = (o ≡ None) × P
Asked o (Err e) P = o ≡ Some e

-- a pass for this right was handed out
abbrev pub taken : {R : Type 0} → Right → Result (Pass R) Refusal → Answer
taken w (Ok p) = hands w p.lock p.task
taken w (Err e) = no e

-- a pass was spent or laid back
abbrev pub spent : {P : Type 0} → Result (Unit {0}) (Kept P) → Answer
spent (Ok _) = done
spent (Err k) = no k.why

-- what a row answers
abbrev pub row_told : Result (Option ℕ) Refusal → Answer
row_told (Ok o) = gives o
row_told (Err e) = no e
