use Rattle.std.proofs.Common.{List, ◌≡◌, ◌++◌}
use Rattle.swd_bits.specs.Bits.{low_bits}
use Rattle.swd_bits.specs.BitLists.{tx_bits_of}
use Rattle.swd_resync.specs.declared.part.Part.{Part}
use Rattle.swd_capture.specs.Printing.{capture_junk_parts}
use Rattle.swd_capture_text.specs.Printers.{PrintStart, PrintQueues}
use Rattle.swd_capture_text.proofs.printer.put_junk.Given as goal

abbrev pub invariant-loop-left : goal.invariant-loop-left
invariant-loop-left g l = (start : PrintStart) (parts : List Part)
    → PrintQueues g.W.Write.contents start l.fn.teller l.fn.block parts
    → (done : List Part) × PrintQueues g.W.Write.contents start l.teller l.block done
    × (done ++ capture_junk_parts (low_bits l.left l.bits) ≡ parts ++ capture_junk_parts (tx_bits_of l.fn.junk))

abbrev pub decreases-loop-left : goal.decreases-loop-left
decreases-loop-left g l = l.left
