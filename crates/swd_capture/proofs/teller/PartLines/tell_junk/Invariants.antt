use Rattle.std.proofs.Common.{◌≡◌, ℕ, ◌+◌, ◌*◌, ◌≤◌, List, ◌++◌}
use Rattle.arrayvec.specs.ArrayString.{array_string_len}
use Rattle.swd_bits.specs.Bits.{low_bits}
use Rattle.swd_bits.specs.BitLists.{tx_bits_of}
use Rattle.swd_resync.specs.declared.part.Part.{Part}
use Rattle.swd_resync.specs.AsItems.{resync_items}
use Rattle.swd_capture.specs.Places.{capture_place_behind}
use Rattle.swd_capture.specs.declared.printed.Printed.TheVariants.{Lines}
use Rattle.swd_capture.specs.Printing.{capture_junk_parts, capture_printed_parts}
use Rattle.swd_capture.specs.Tellers.{AreCaptureLinesAfter}
use Rattle.swd_capture.proofs.teller.PartLines.tell_junk.Given as goal

abbrev pub invariant-loop-left : goal.invariant-loop-left
invariant-loop-left g l = record {
  tells : (parts : List Part) → AreCaptureLinesAfter parts l.fn.self
      → (done : List Part) × (more : List ℕ) × (l.place ≡ capture_place_behind (resync_items done))
      × (l.text.bytes ≡ l.fn.text.bytes ++ more)
      × (capture_printed_parts (Lines l.fn.self.form) done ≡ capture_printed_parts (Lines l.fn.self.form) parts ++ more)
      × (done ++ capture_junk_parts (low_bits l.left l.bits) ≡ parts ++ capture_junk_parts (tx_bits_of l.fn.junk));
  form : l.self.form ≡ l.fn.self.form;
  select : l.self.select ≡ l.fn.self.select;
  room : array_string_len l.text + 29 * l.left ≤ array_string_len l.fn.text + 232;
}

abbrev pub decreases-loop-left : goal.decreases-loop-left
decreases-loop-left g l = l.left
