use Rattle.std.proofs.Common.{◌≡◌, List, Option, Bool, ℕ, [], ◌++◌}
use Rattle.swd_io.specs.Blocks.{BlockBufferSends}
use Rattle.swd_trace.specs.declared.item.Item.{Item}
use Rattle.swd_trace.specs.Reading.{reading_of}
use Rattle.swd_trace.specs.Texts.{listing}
use Rattle.swd_trace.specs.Held.{decoder_rest, decoder_places}
use Rattle.swd_text.specs.Listers.{DecodeTextLists}
use Rattle.swd_text.proofs.lister.Lister.put_last.Given as goal

abbrev pub invariant-loop-item : goal.invariant-loop-item
invariant-loop-item g l = record {
  sends : (start : Option (List ℕ)) (bits : List Bool) (items : List Item)
      → DecodeTextLists g.W.Write.contents start l.fn.self.decoder l.fn.block bits items
      → (given : List Item) × (given ++ decoder_rest l.self.decoder [] ≡ reading_of bits)
      × BlockBufferSends g.W.Write.contents start l.block (listing given);
  writer : l.block.writer.ghost_name ≡ l.fn.block.writer.ghost_name;
}

abbrev pub decreases-loop-item : goal.decreases-loop-item
decreases-loop-item g l = decoder_places l.self.decoder
