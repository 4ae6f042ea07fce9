use Rattle.schedule.proofs.WholeListing.{are_quiet, are_undisturbed, is_numbered, is_prefix}
use Rattle.schedule.proofs.laws.laws_hold.Goals as goal

pub returns-clause-numbered : goal.returns-clause-numbered
returns-clause-numbered c = is_numbered

pub returns-clause-prefix : goal.returns-clause-prefix
returns-clause-prefix c = is_prefix

pub returns-clause-quiet : goal.returns-clause-quiet
returns-clause-quiet c = are_quiet

pub returns-clause-undisturbed : goal.returns-clause-undisturbed
returns-clause-undisturbed c = are_undisturbed
