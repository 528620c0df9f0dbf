use Rattle.std.proofs.Common.{◌≡◌, ℕ, ◌+◌, ◌≤◌, ◌^◌, List, ◌++◌, Option, length}
use Rattle.swd_io.specs.Blocks.{BlockBufferSends}
use Rattle.swd_image_files.specs.Texts.{image_file_data_lines}
use Rattle.swd_image_files.proofs.write.put_records.Given as goal

abbrev pub invariant-loop-rest : goal.invariant-loop-rest
invariant-loop-rest g l = record {
  most : ℕ;
  enough : length l.rest ≤ most;
  fits : l.at + length l.rest ≤ 2 ^ 32;
  text : List ℕ;
  whole : text ++ image_file_data_lines l.records most l.upper l.at l.rest
      ≡ image_file_data_lines l.records (length l.bytes) 0 l.addr l.bytes;
  sends : (start : Option (List ℕ)) (all : List ℕ) → BlockBufferSends g.W.Write.contents start l.fn.block all
      → BlockBufferSends g.W.Write.contents start l.block (all ++ text);
  writer : l.block.writer.ghost_name ≡ l.fn.block.writer.ghost_name;
}

abbrev pub decreases-loop-rest : goal.decreases-loop-rest
decreases-loop-rest g l = length l.rest
