-- The published number of each refusal, as the layer below has it: 1 to 32 the lock, 39 the listing, 40 to 43 the text.
use Rattle.std.specs.Prelude.{ℕ}
use Rattle.calls.specs.Refusals.{refusal_number as lock_number}
use Rattle.script.specs.Refusals.{refusal_number as line_number}
use Rattle.listing.specs.Refusals.{refusal_number as listing_number}
use Rattle.schedule.specs.declared.refusal.Refusal.{Refusal}
use Rattle.schedule.specs.declared.refusal.Refusal.TheVariants.{Line, Lock, Listing}

abbrev pub refusal_number : Refusal → ℕ
refusal_number (Line e) = line_number e
refusal_number (Lock e) = lock_number e
refusal_number (Listing e) = listing_number e
