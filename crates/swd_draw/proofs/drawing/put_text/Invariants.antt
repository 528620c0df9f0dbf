use Rattle.std.proofs.Common.{◌≡◌, ◌-◌, ◌≤◌, ◌++◌, ℕ, List, Option, length, take}
use Rattle.swd_io.specs.Blocks.{BlockBufferSends}
use Rattle.swd_draw.proofs.drawing.put_text.Given as goal

abbrev pub invariant-loop-at : goal.invariant-loop-at
invariant-loop-at g l = record {
  within : l.at ≤ length l.text;
  writer : l.block.writer.ghost_name ≡ l.fn.block.writer.ghost_name;
  sends : (start : Option (List ℕ)) (all : List ℕ) → BlockBufferSends g.W.Write.contents start l.fn.block all
      → BlockBufferSends g.W.Write.contents start l.block (all ++ take l.at l.text);
}

abbrev pub decreases-loop-at : goal.decreases-loop-at
decreases-loop-at g l = length l.text - l.at
