-- The calls alone, with neither memory nor queue: each line that is due is done, at no cost.
use Rattle.std.specs.Prelude.{List, [], ◌∷◌, map}
use Rattle.lines.specs.Lines.{next_deed}
use Rattle.calls.specs.declared.record.Record.{Record}
use Rattle.calls.specs.States.{State}
use Rattle.calls.specs.Steps.{Call, Verdict, after_deed, at_once, judge, line, refuse}
use Rattle.lock.specs.Runs.{Made}

abbrev pub modelled : Verdict → State → State
modelled (refuse e) s = s
modelled (line t r) s = after_deed t r (next_deed t r.track) 0 s
modelled (at_once a z) s = z

abbrev pub model_step : Call → State → State
model_step c s = modelled (judge c s) s

abbrev pub model_run : List Made → State → State
model_run [] s = s
model_run (e ∷ es) s = model_run es (model_step e.call s)

-- a record and a state but for what was paid

abbrev pub unpaid_record : Record → Record
unpaid_record r = record { track = r.track; account = record { cost = 0; u = r.account.u; g = r.account.g; total = 0; finished = r.account.finished }; out = r.out }

abbrev pub unpaid : State → State
unpaid s = record { number = s.number; opened = s.opened; cells = s.cells; waiting = s.waiting; records = map unpaid_record s.records; table = s.table }
