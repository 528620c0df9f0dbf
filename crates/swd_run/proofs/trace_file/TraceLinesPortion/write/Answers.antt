use Rattle.std.proofs.Common.{rules, ◌++◌}
use Rattle.swd_io.specs.Blocks.{BlockBufferSends}
use Rattle.swd_trace.specs.Texts.{trace_text}
use Rattle.swd_run.specs.Reports.{ReportWritesOn}
use Rattle.swd_run.proofs.ReportLemmas.{report_written_or_stopped}
use Rattle.swd_run.proofs.trace_file.TraceLinesPortion.write.Goals as goal

pub returns : goal.returns
returns g c = λ start text h.
    let contents = g.W.Write.contents in
    let all = text ++ trace_text c.args.self.now.0.now in
    let sends = c.put_items.ensures.sends start text (c.new-block.ensures.sends start text h.gone h.count) in
    let sent : ReportWritesOn c.flush.result start (contents c.flush.new.self.writer.now) all =
    report_written_or_stopped (λ s a. BlockBufferSends contents s c.put_items.new.block a) c.flush.result start _ _
    sends c.flush.ensures.ok c.flush.ensures.err in
    search rules
