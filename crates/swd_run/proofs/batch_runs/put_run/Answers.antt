use Rattle.std.proofs.Common.{rules, ◌≡◌, ◌∙◌, List, [], None, Option, ℕ, length, ap, sym, subst, arith}
use Rattle.swd_port.specs.declared.access.Access.{Access}
use Rattle.swd_io.specs.Blocks.{BlockBufferSends}
use Rattle.swd_script.specs.Readers.{script_batch_listed}
use Rattle.swd_host.specs.Fields.{host_report_to}
use Rattle.swd_run.specs.declared.going_on.Stop.{Stop}
use Rattle.swd_run.specs.Sessions.{RunsBatchFrom, batch_bursts}
use Rattle.swd_run.specs.Reports.{report_lines_from}
use Rattle.swd_run.proofs.ReportLemmas.{report_lines_empty}
use Rattle.swd_run.proofs.batch_runs.put_run.Goals as goal

pub returns-clause-goes : goal.returns-clause-goes
returns-clause-goes g c =
    let batch = script_batch_listed c.args.batch.now in
    let report = c.run_reporting.new.report in
    let (stops, follows, goes) = c.run_reporting.ensures.goes in
    let none = ap length c.requires.none in
    let accesses : report.accesses.now ≡ batch.accesses = follows.accesses ∙ c.as_slice.ensures.value in
    let sends : (start : Option (List ℕ)) → BlockBufferSends g.O.Write.contents start c.args.block.now []
    → BlockBufferSends g.O.Write.contents start report.block.now
    (report_lines_from None 0 stops batch.accesses report.answers.now.items) =
    λ start h. subst (λ (l : List Access). BlockBufferSends g.O.Write.contents start report.block.now
    (report_lines_from None 0 stops l report.answers.now.items)) accesses (follows.has start [] (record {
      few = omega (arith, none);
      within = tt;
      sends = subst (BlockBufferSends g.O.Write.contents start c.args.block.now)
          (sym (report_lines_empty c.as_slice.result.now c.args.answers.now.items c.requires.none)) h;
    })).sends in
    let done : (x : List Stop) × RunsBatchFrom g.W.Wire c.args.options.opened
    (batch_bursts c.args.options.limits.bursts batch) c.args.options.limits batch c.args.wire.now (record {
      stops = x;
      told = host_report_to report.answers.now.items
          c.run_reporting.result;
    }) c.run_reporting.new.wire × ((start : Option (List ℕ))
    → BlockBufferSends g.O.Write.contents start c.args.block.now []
    → BlockBufferSends g.O.Write.contents start report.block.now
    (report_lines_from None 0 x batch.accesses report.answers.now.items)) = (stops, goes, sends) in
    search rules
