use Rattle.std.proofs.Common.{◌≡◌, ℕ, List, ◌++◌, Option, take}
use Rattle.swd_io.specs.Blocks.{BlockBufferSends}
use Rattle.swd_ends.specs.TargetLogs.{live_log_lines}
use Rattle.swd_ends.proofs.target_log.put_transfers.Given as goal

abbrev pub invariant-loop-transfer : goal.invariant-loop-transfer
invariant-loop-transfer g l = record {
  sends : (start : Option (List ℕ)) (all : List ℕ) → BlockBufferSends g.W.Write.contents start l.fn.block all
      → BlockBufferSends g.W.Write.contents start l.block (all ++ live_log_lines (take l.transfer-index l.transfers));
  writer : l.block.writer.ghost_name ≡ l.fn.block.writer.ghost_name;
}
