use Rattle.std.proofs.Common.{sym}
use Rattle.listing.proofs.Decimals.{length_one, length_short}
use Rattle.listing.proofs.digits.short_width.Goals as goal

pub returns-then-number-lt10 : goal.returns-then-number-lt10
returns-then-number-lt10 c = sym (length_one c.args.number c.if-number-lt10.true)

pub returns-else-number-lt10 : goal.returns-else-number-lt10
returns-else-number-lt10 c = sym (length_short c.args.number c.if-number-lt10.false c.requires)
