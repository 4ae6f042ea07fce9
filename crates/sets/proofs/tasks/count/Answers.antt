-- A set has as many ones as tasks.
use Rattle.std.proofs.Common.{◌^◌, ◌<◌, rules}
use Rattle.sets.proofs.Count.{ones_counted}
use Rattle.sets.proofs.tasks.count.Goals as goal

pub returns : goal.returns
returns c = let fits : c.args.set < 2 ^ 64 = search rules in ones_counted c.args.set fits
