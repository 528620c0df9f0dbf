use Rattle.std.proofs.Common.{◌≡◌, List, Bool}
use Rattle.swd_trace.specs.Held.{decoder_fed, decoder_places}
use Rattle.swd_trace.specs.Normality.{ListingAgrees}
use Rattle.swd_trace.proofs.listing.normal.take_due.Given as goal

abbrev pub invariant-loop-item : goal.invariant-loop-item
invariant-loop-item l = record {
  agrees : (ahead : List Bool) → ListingAgrees l.items l.fn.same l.fn.decoder ahead
      → ListingAgrees l.items l.same l.decoder ahead;
  fed : decoder_fed l.decoder ≡ decoder_fed l.fn.decoder;
}

abbrev pub decreases-loop-item : goal.decreases-loop-item
decreases-loop-item l = decoder_places l.decoder
