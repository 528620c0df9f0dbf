use Rattle.std.proofs.Common.{ℕ, List, ◌≡◌, ◌++◌}
use Rattle.swd_bits.specs.Bits.{low_bits}
use Rattle.swd_bits.specs.BitLists.{tx_bits_of}
use Rattle.swd_resync.specs.declared.part.Part.{Part}
use Rattle.swd_capture.specs.Printing.{capture_junk_parts}
use Rattle.swd_draw.specs.Collecting.{KeepsDrawn}
use Rattle.swd_draw.proofs.kept.DrawnParts.add_junk.Given as goal

abbrev pub invariant-loop-left : goal.invariant-loop-left
invariant-loop-left l = (most : ℕ) (parts : List Part) → KeepsDrawn most parts l.fn.self
    → (done : List Part) × KeepsDrawn most done l.self
    × (done ++ capture_junk_parts (low_bits l.left l.bits) ≡ parts ++ capture_junk_parts (tx_bits_of l.fn.junk))

abbrev pub decreases-loop-left : goal.decreases-loop-left
decreases-loop-left l = l.left
