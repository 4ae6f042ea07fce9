-- What the calls made, and their answers, say of a task: the pass that is out to it, its attempts, and the changes of its right.
use Rattle.std.specs.Prelude.{ℕ, ◌+◌, cond, ◌&&◌, List, [], ◌∷◌, Some, None, Option, ◌==◌}
use Rattle.lines.specs.declared.place.Right.{Right}
use Rattle.calls.specs.Steps.{Call, begin, downgrade, lay_back, leave, take, upgrade}
use Rattle.lock.specs.Runs.{Made, task_of, was_obeyed}

-- the right of the pass that is out to a task, how many begins of it were obeyed, and how many upgrades and downgrades since the latest
pub record History : Type 0 where
  pub out : Option Right
  pub begins : ℕ
  pub upgrades : ℕ
  pub downgrades : ℕ

-- of a task that made no call
abbrev pub nothing_yet : History
nothing_yet = record { out = None; begins = 0; upgrades = 0; downgrades = 0 }

-- what an obeyed call makes of its task's history: take hands a pass out, and four calls take it back
abbrev pub obeyed_in : History → Call → History
obeyed_in h (begin t) = record { out = h.out; begins = h.begins + 1; upgrades = 0; downgrades = 0 }
obeyed_in h (take w t) = record { out = Some w; begins = h.begins; upgrades = h.upgrades; downgrades = h.downgrades }
obeyed_in h (lay_back w k t) = record { out = None; begins = h.begins; upgrades = h.upgrades; downgrades = h.downgrades }
obeyed_in h (upgrade k t) = record { out = None; begins = h.begins; upgrades = h.upgrades + 1; downgrades = h.downgrades }
obeyed_in h (downgrade k t) = record { out = None; begins = h.begins; upgrades = h.upgrades; downgrades = h.downgrades + 1 }
obeyed_in h (leave w k t) = record { out = None; begins = h.begins; upgrades = h.upgrades; downgrades = h.downgrades }
obeyed_in h c = h

-- what a call makes of the history of task t: nothing, where it is refused or another task's
abbrev pub made_in : ℕ → History → Made → History
made_in t h e = cond (was_obeyed e.answer && (task_of e.call == t)) (obeyed_in h e.call) h

-- the history of task t after these calls, where it was h before them
abbrev pub history_from : ℕ → List Made → History → History
history_from t [] h = h
history_from t (e ∷ es) h = history_from t es (made_in t h e)

-- the history of task t in a run from the opening
abbrev pub history : ℕ → List Made → History
history t es = history_from t es nothing_yet
