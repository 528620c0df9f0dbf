use Rattle.std.proofs.Common.{◌≡◌, ◌+◌, ◌≤◌, ◌++◌, List, Bool, length}
use Rattle.swd_trace.specs.Held.{decoder_fed, IsDecoderSettled}
use Rattle.swd_trace.specs.ItemBits.{item_bits_left}
use Rattle.swd_trace.specs.Normality.{ListingAgrees}
use Rattle.swd_trace.specs.Texts.{item_bits}
use Rattle.swd_trace.proofs.listing.normal.take_item.Given as goal

abbrev pub invariant-loop-left : goal.invariant-loop-left
invariant-loop-left l = record {
  settled : IsDecoderSettled l.decoder;
  short : l.left.len ≤ 63;
  fed : decoder_fed l.decoder + length (item_bits_left l.left) ≡ decoder_fed l.fn.decoder + length (item_bits l.item);
  agrees : (ahead : List Bool) → ListingAgrees l.items l.fn.same l.fn.decoder (item_bits l.item ++ ahead)
      → ListingAgrees l.items l.same l.decoder (item_bits_left l.left ++ ahead);
}

abbrev pub decreases-loop-left : goal.decreases-loop-left
decreases-loop-left l = length (item_bits_left l.left)
