use Rattle.std.proofs.Common.{◌≡◌, ℕ, List, ◌++◌, Option, take}
use Rattle.swd_io.specs.Blocks.{BlockBufferSends}
use Rattle.swd_trace.specs.Texts.{trace_text}
use Rattle.swd_text.proofs.encoding.put_items.Given as goal

abbrev pub invariant-loop-item : goal.invariant-loop-item
invariant-loop-item g l = record {
  sends : (start : Option (List ℕ)) (all : List ℕ) → BlockBufferSends g.W.Write.contents start l.fn.block all
      → BlockBufferSends g.W.Write.contents start l.block (all ++ trace_text (take l.item-index l.items));
  writer : l.block.writer.ghost_name ≡ l.fn.block.writer.ghost_name;
}
