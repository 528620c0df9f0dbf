use Rattle.std.proofs.Common.{◌≡◌, ℕ, List, ◌++◌, Option, drop}
use Rattle.swd_io.specs.Blocks.{BlockBufferSends}
use Rattle.swd_run.specs.Reports.{report_lines_from}
use Rattle.swd_run.proofs.report.put_lines.Given as goal

abbrev pub invariant-loop-stop : goal.invariant-loop-stop
invariant-loop-stop g l = record {
  lines : (text : List ℕ) ×
      (text ++ report_lines_from l.reads l.from (drop l.stop-index l.stops) l.accesses l.answers
      ≡ report_lines_from l.reads 0 l.stops l.accesses l.answers)
      × ((start : Option (List ℕ)) (all : List ℕ) → BlockBufferSends g.W.Write.contents start l.fn.block all
      → BlockBufferSends g.W.Write.contents start l.block (all ++ text));
  writer : l.block.writer.ghost_name ≡ l.fn.block.writer.ghost_name;
}
