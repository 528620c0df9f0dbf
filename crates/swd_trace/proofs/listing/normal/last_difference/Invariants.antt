use Rattle.std.proofs.Common.{[]}
use Rattle.swd_trace.specs.Held.{decoder_places}
use Rattle.swd_trace.specs.Normality.{ListingAgrees}
use Rattle.swd_trace.proofs.listing.normal.last_difference.Given as goal

abbrev pub invariant-loop-item : goal.invariant-loop-item
invariant-loop-item l = ListingAgrees l.items l.same l.decoder []

abbrev pub decreases-loop-item : goal.decreases-loop-item
decreases-loop-item l = decoder_places l.decoder
