use Rattle.std.proofs.Common.{rules, ◌≡◌, ◌∙◌, ◌-◌, [], ap, ap₂, refl, subst}
use Rattle.std.proofs.KnownBytes.{Appends-nil}
use Rattle.swd_io.specs.Blocks.{BlockBufferSends}
use Rattle.swd_host.specs.Reports.{host_report_of}
use Rattle.swd_script.specs.Readers.{script_batch_listed}
use Rattle.swd_run.specs.Reports.{report_text, script_run_report, ReportWritesOn}
use Rattle.swd_run.specs.Sessions.{script_run_of}
use Rattle.swd_run.proofs.ReportLemmas.{report_written_or_stopped}
use Rattle.swd_run.proofs.report.write_run.Goals as goal

pub returns : goal.returns
returns g c =
    let start = g.W.Write.contents c.args.writer.now in
    let performed = c.args.performed.now in
    let run = performed.last in
    let batch = script_batch_listed c.args.batch.now in
    let wanted = script_run_report batch performed.runs (script_run_of run) in
    let text : report_text c.shown_reads-reads.result c.never_came-never.result c.as_slice-accesses.result.now
    run.stops.items (host_report_of run.report) ≡ wanted =
    ap (λ list. report_text c.shown_reads-reads.result c.never_came-never.result list run.stops.items
    (host_report_of run.report)) c.as_slice-accesses.ensures.value
    ∙ ap₂ (λ reads never. report_text reads never batch.accesses run.stops.items (host_report_of run.report))
    c.shown_reads-reads.ensures c.never_came-never.ensures in
    let begun : BlockBufferSends g.W.Write.contents start c.new-block.result [] = c.new-block.ensures.sends start []
    (Appends-nil start) refl in
    let put = subst (BlockBufferSends g.W.Write.contents start c.put_report.new.block) text
    (c.put_report.ensures.sends start [] begun) in
    let on : ReportWritesOn c.flush.result start (g.W.Write.contents c.flush.new.self.writer.now) wanted =
    report_written_or_stopped (λ s a. BlockBufferSends g.W.Write.contents s c.put_report.new.block a) c.flush.result
    start (g.W.Write.contents c.flush.new.self.writer.now) wanted put c.flush.ensures.ok c.flush.ensures.err in
    search rules
