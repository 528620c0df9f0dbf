use Rattle.std.proofs.Common.{◌≡◌}
use Rattle.swd_image.specs.Bytes.{image_bytes_of}
use Rattle.swd_image.proofs.dumping.bytes_of.Given as goal

abbrev pub invariant-loop-index : goal.invariant-loop-index
invariant-loop-index g l = l.bytes.items ≡ image_bytes_of l.words l.place l.index
