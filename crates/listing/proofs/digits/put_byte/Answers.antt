use Rattle.listing.proofs.Taken.{takes_byte}
use Rattle.listing.proofs.digits.put_byte.Goals as goal

pub returns : goal.returns
returns c = takes_byte c.args.at c.args.out.now c.args.byte c.requires
