use Rattle.std.proofs.Common.{◌≡◌, ◌-◌, ◌≤◌, ◌++◌, [], ℕ, List, Option, length, take}
use Rattle.swd_io.specs.Blocks.{BlockBufferSends}
use Rattle.swd_capture.specs.Tellers.{IsCaptureTellerAfter}
use Rattle.swd_draw.specs.Rows.{drawn_line_form, drawing_rows}
use Rattle.swd_draw.proofs.drawing.put_rows.Given as goal

abbrev pub invariant-loop-index : goal.invariant-loop-index
invariant-loop-index g l = record {
  within : l.index ≤ length l.parts;
  after : IsCaptureTellerAfter (drawn_line_form l.names) (take l.index l.parts) l.teller;
  writer : l.block.writer.ghost_name ≡ l.fn.block.writer.ghost_name;
  sends : (start : Option (List ℕ)) (all : List ℕ) → BlockBufferSends g.W.Write.contents start l.fn.block all
      → BlockBufferSends g.W.Write.contents start l.block (all ++ drawing_rows l.names [] (take l.index l.parts));
}

abbrev pub decreases-loop-index : goal.decreases-loop-index
decreases-loop-index g l = length l.parts - l.index
