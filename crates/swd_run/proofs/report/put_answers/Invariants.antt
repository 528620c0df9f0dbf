use Rattle.std.proofs.Common.{◌≡◌, ℕ, List, ◌++◌, Option, take, length}
use Rattle.swd_io.specs.Blocks.{BlockBufferSends}
use Rattle.swd_run.specs.Reports.{report_answer_lines}
use Rattle.swd_run.proofs.report.put_answers.Given as goal

abbrev pub invariant-loop-access : goal.invariant-loop-access
invariant-loop-access g l =
    let so_far = report_answer_lines l.reads (take (length l.yielded) l.accesses) (take (length l.yielded) l.answers) in
    record {
      sends : (start : Option (List ℕ)) (all : List ℕ) → BlockBufferSends g.W.Write.contents start l.fn.block all
          → BlockBufferSends g.W.Write.contents start l.block (all ++ so_far);
      writer : l.block.writer.ghost_name ≡ l.fn.block.writer.ghost_name;
    }
