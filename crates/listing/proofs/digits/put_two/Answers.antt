use Rattle.listing.proofs.Decimals.{PAIRS_at}
use Rattle.listing.proofs.Taken.{takes_both}
use Rattle.listing.proofs.digits.put_two.Goals as goal

pub returns : goal.returns
returns c =
    let p = PAIRS_at c.args.number c.requires.0 in
    let first = rw p.0 at c.put_byte-at.ensures in
    let second = rw p.1 at c.put_byte.ensures in
    takes_both first second
