use Rattle.std.proofs.Common.{Ok, ap, ◌∙◌}
use Rattle.calls.proofs.SoundState.{sound_from, sound_unbroken}
use Rattle.calls.proofs.checking.check_state.Goals as goal

pub returns-clause-sound : goal.returns-clause-sound
returns-clause-sound c e = sound_from c.args.cells.now c.args.tasks.now (cc)

pub returns-clause-complete : goal.returns-clause-complete
returns-clause-complete c some few s = ap Ok (c.first_broken.ensures ∙ sound_unbroken c.args.cells.now c.args.tasks.now s)
