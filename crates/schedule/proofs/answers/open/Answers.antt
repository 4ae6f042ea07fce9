use Rattle.std.proofs.Common.{Ok}
use Rattle.schedule.proofs.Told.{opens}
use Rattle.schedule.proofs.answers.open.Goals as goal

pub returns : goal.returns
returns g c = opens g.Q.Queue g.S.Store.LIMIT g.S.Store.numbers c.args.lock.now c.open_cached.new.self c.args.roles.now (Ok tt) c.in_ok-open_cached.ensures.opens
