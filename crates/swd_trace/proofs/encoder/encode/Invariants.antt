use Rattle.std.proofs.Common.{◌≡◌, ℕ, List, ◌++◌, length}
use Rattle.std.specs.Io.KnownBytes.{Appends}
use Rattle.swd_trace.specs.Texts.{item_text}
use Rattle.swd_trace.specs.ItemBytes.{item_bytes_left}
use Rattle.swd_trace.proofs.encoder.encode.Given as goal

abbrev pub invariant-loop-bytes : goal.invariant-loop-bytes
invariant-loop-bytes g l =
    (sent : List ℕ) × (item_text l.item ≡ sent ++ item_bytes_left l.bytes)
    × Appends (g.W.Write.contents l.fn.writer) (g.W.Write.contents l.writer) sent

abbrev pub decreases-loop-bytes : goal.decreases-loop-bytes
decreases-loop-bytes g l = length (item_bytes_left l.bytes)
