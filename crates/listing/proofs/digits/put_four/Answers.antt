use Rattle.listing.proofs.Taken.{takes_both}
use Rattle.listing.proofs.digits.put_four.Goals as goal

pub returns : goal.returns
returns c = takes_both c.put_two-at.ensures c.put_two.ensures
