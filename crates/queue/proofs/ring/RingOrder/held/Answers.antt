-- The list has as many numbers as are read.
use Rattle.std.proofs.Common.{sym}
use Rattle.queue.proofs.Round.{length_round}
use Rattle.queue.proofs.ring.RingOrder.held.Goals as goal

pub returns : goal.returns
returns c = sym (length_round c.args.self.now.numbers c.args.self.now.start c.args.self.now.count)
