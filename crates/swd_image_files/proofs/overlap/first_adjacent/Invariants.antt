use Rattle.std.proofs.Common.{◌≡◌, drop}
use Rattle.swd_image_files.specs.Overlaps.{first_image_overlap_from}
use Rattle.swd_image_files.proofs.overlap.first_adjacent.Given as goal

abbrev pub invariant-loop-range : goal.invariant-loop-range
invariant-loop-range l = first_image_overlap_from l.end (drop l.range-index l.sorted)
    ≡ first_image_overlap_from 0 l.sorted
