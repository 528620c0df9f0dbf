use Rattle.std.proofs.Common.{List, Option, ℕ, ◌≡◌, ◌++◌, map}
use Rattle.swd_io.specs.Blocks.{BlockBufferSends}
use Rattle.swd_bits.specs.Bits.{low_bits}
use Rattle.swd_trace.specs.declared.item.Item.TheVariants.{Junk}
use Rattle.swd_trace.specs.Texts.{listing}
use Rattle.swd_text.proofs.lister.put_junk.Given as goal

abbrev pub invariant-loop-left : goal.invariant-loop-left
invariant-loop-left g l = record {
  sends : (start : Option (List ℕ)) (all : List ℕ) → BlockBufferSends g.W.Write.contents start l.fn.block all
      → (done : List ℕ) × BlockBufferSends g.W.Write.contents start l.block (all ++ done)
      × (done ++ listing (map Junk (low_bits l.left l.bits))
      ≡ listing (map Junk (low_bits l.fn.junk.len l.fn.junk.bits)));
  writer : l.block.writer.ghost_name ≡ l.fn.block.writer.ghost_name;
}

abbrev pub decreases-loop-left : goal.decreases-loop-left
decreases-loop-left g l = l.left
