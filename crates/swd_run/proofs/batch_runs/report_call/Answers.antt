use Rattle.std.proofs.Common.{rules, ◌≡◌, ◌∷◌, ◌++◌, [], None, false, length, refl, sym, ap, subst}
use Rattle.std.proofs.KnownBytes.{Appends-nil}
use Rattle.swd_host.specs.Reports.{host_report_of}
use Rattle.swd_host.specs.Fields.{host_report_to}
use Rattle.swd_script.specs.Readers.{script_batch_listed}
use Rattle.swd_run.specs.Reports.{ReportsBatchRunFrom, ReportWritesOn, report_last_line, report_lines_from, report_text}
use Rattle.swd_run.specs.Reports.{script_run_report, report_shown_reads}
use Rattle.swd_run.specs.Sessions.{ScriptRun}
use Rattle.swd_run.specs.Unfoldings.{until_never_came}
use Rattle.swd_run.proofs.batch_runs.report_call.Goals as goal

pub returns-clause-reports : goal.returns-clause-reports
returns-clause-reports g c =
    let batch = script_batch_listed c.args.batch.now in
    let start = g.O.Write.contents c.args.report.now in
    let now = g.O.Write.contents c.finish-written.new.block.writer.now in
    let answers = c.put_run-ending.new.answers.items in
    let (stops, goes, sends) = c.put_run-ending.ensures.goes in
    let told = host_report_to answers c.put_run-ending.result in
    let run : ScriptRun = record { stops = stops; told = told } in
    let text : report_text None false batch.accesses stops told ≡ script_run_report batch 1 run =
    ap (λ until. report_text (report_shown_reads until 1) (until_never_came until told) batch.accesses stops told)
    (sym c.requires.plain) in
    let lines = report_lines_from None 0 stops batch.accesses answers in
    let number : c.len-2.result ≡ length answers = search rules in
    let done : ReportsBatchRunFrom g.W.Wire c.args.options.opened
    c.args.options.limits batch c.args.wire.now
    c.put_run-ending.new.wire start now (host_report_of c.with.result) c.finish-written.result = record {
      run = run;
      last = sym c.with.ensures;
      goes = goes;
      writes = subst (ReportWritesOn c.finish-written.result start now) text
          (subst (λ n. ReportWritesOn c.finish-written.result start now
          (lines ++ (report_last_line told.ended n told.begun ++ 10 ∷ []))) number
          (c.finish-written.ensures.writes start lines
          (sends start (c.new-block.ensures.sends start [] (Appends-nil start) refl))));
    } in
    search rules
