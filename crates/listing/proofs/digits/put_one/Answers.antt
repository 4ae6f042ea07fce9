use Rattle.std.proofs.lemmas.Fmt.{decimal_digit}
use Rattle.listing.proofs.digits.put_one.Goals as goal

pub returns : goal.returns
returns c = rw (decimal_digit c.args.number c.requires.0) c.put_byte.ensures
