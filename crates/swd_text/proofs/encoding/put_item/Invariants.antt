use Rattle.std.proofs.Common.{◌≡◌, ℕ, List, Option, ◌++◌, length}
use Rattle.swd_io.specs.Blocks.{BlockBufferSends}
use Rattle.swd_trace.specs.Texts.{item_text}
use Rattle.swd_trace.specs.ItemBytes.{item_bytes_left}
use Rattle.swd_text.proofs.encoding.put_item.Given as goal

abbrev pub invariant-loop-bytes : goal.invariant-loop-bytes
invariant-loop-bytes g l = record {
  sends : (start : Option (List ℕ)) (all : List ℕ) → BlockBufferSends g.W.Write.contents start l.fn.block all
      → (sent : List ℕ) × (item_text l.item ≡ sent ++ item_bytes_left l.bytes)
      × BlockBufferSends g.W.Write.contents start l.block (all ++ sent);
  writer : l.block.writer.ghost_name ≡ l.fn.block.writer.ghost_name;
}

abbrev pub decreases-loop-bytes : goal.decreases-loop-bytes
decreases-loop-bytes g l = length (item_bytes_left l.bytes)
