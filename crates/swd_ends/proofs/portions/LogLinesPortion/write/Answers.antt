use Rattle.std.proofs.Common.{rules, ◌++◌}
use Rattle.swd_io.specs.Blocks.{BlockBufferSends}
use Rattle.swd_run.specs.Reports.{ReportWritesOn}
use Rattle.swd_run.proofs.ReportLemmas.{report_written_or_stopped}
use Rattle.swd_ends.specs.TargetLogs.{live_log_lines}
use Rattle.swd_ends.proofs.portions.LogLinesPortion.write.Goals as goal

pub returns : goal.returns
returns g c = λ start text h.
    let contents = g.W.Write.contents in
    let all = text ++ live_log_lines c.args.self.now.0.now in
    let sends = c.put_transfers.ensures.sends start text (c.new-block.ensures.sends start text h.gone h.count) in
    let sent : ReportWritesOn c.flush.result start (contents c.flush.new.self.writer.now) all =
    report_written_or_stopped (λ s a. BlockBufferSends contents s c.put_transfers.new.block a) c.flush.result start _ _
    sends c.flush.ensures.ok c.flush.ensures.err in
    search rules
