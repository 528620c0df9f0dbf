use Rattle.std.proofs.Common.{◌≡◌, map, take}
use Rattle.swd_io.specs.Blocks.{BlockBufferSends}
use Rattle.swd_resync.specs.declared.part.Part.TheVariants.{Item}
use Rattle.swd_capture.specs.Printing.{capture_printed_parts}
use Rattle.swd_capture.specs.Tellers.{IsCaptureTellerAfter}
use Rattle.swd_capture_text.proofs.items.print_items.Given as goal

abbrev pub invariant-loop-item : goal.invariant-loop-item
invariant-loop-item g l = record {
  after : IsCaptureTellerAfter l.fn.printed (map Item (take l.item-index l.items)) l.teller;
  sends : BlockBufferSends g.W.Write.contents (g.W.Write.contents l.fn.writer) l.block
      (capture_printed_parts l.fn.printed (map Item (take l.item-index l.items)));
  writer : l.block.writer.ghost_name ≡ l.initial.block.writer.ghost_name;
}
