use Rattle.std.proofs.Common.{◌≡◌, ◌+◌, length, drop}
use Rattle.swd_trace.specs.Held.{decoder_fed, IsDecoderSettled}
use Rattle.swd_trace.specs.Normality.{ListingAgrees}
use Rattle.swd_trace.specs.Texts.{bits_of_items}
use Rattle.swd_trace.proofs.listing.normal.first_difference.Given as goal

abbrev pub invariant-loop-item : goal.invariant-loop-item
invariant-loop-item l = record {
  settled : IsDecoderSettled l.decoder;
  fed : decoder_fed l.decoder + length (bits_of_items (drop l.item-index l.items)) ≡ length (bits_of_items l.items);
  agrees : ListingAgrees l.items l.same l.decoder (bits_of_items (drop l.item-index l.items));
}
