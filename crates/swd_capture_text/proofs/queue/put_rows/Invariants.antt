use Rattle.std.proofs.Common.{◌≡◌, List, Option, ℕ, ◌++◌}
use Rattle.swd_io.specs.Blocks.{BlockBufferSends}
use Rattle.swd_resync.specs.declared.part.Part.{Part}
use Rattle.swd_capture.specs.declared.printed.Printed.{Printed}
use Rattle.swd_capture.specs.Printing.{capture_end_rows_printed, capture_printed_parts}
use Rattle.swd_capture.specs.Tellers.{IsCaptureTellerAfter}
use Rattle.swd_capture_text.proofs.queue.put_rows.Given as goal

abbrev pub invariant-loop-row : goal.invariant-loop-row
invariant-loop-row g l = record {
  sends : (start : Option (List ℕ)) (printed : Printed) (parts : List Part)
      → IsCaptureTellerAfter printed parts l.teller
      → BlockBufferSends g.W.Write.contents start l.fn.block (capture_printed_parts printed parts)
      → BlockBufferSends g.W.Write.contents start l.block
      (capture_printed_parts printed parts ++ capture_end_rows_printed printed parts l.row);
  writer : l.block.writer.ghost_name ≡ l.fn.block.writer.ghost_name;
}
