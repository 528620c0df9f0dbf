use Rattle.std.proofs.Common.{◌≡◌}
use Rattle.swd_image.specs.Bytes.{image_bytes_at}
use Rattle.swd_image_ends.proofs.memory.memory_bytes.Given as goal

abbrev pub invariant-loop-index : goal.invariant-loop-index
invariant-loop-index g l = l.bytes.items ≡ image_bytes_at l.memory l.base l.index
