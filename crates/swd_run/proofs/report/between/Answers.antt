use Rattle.std.proofs.Common.{arith}
use Rattle.swd_run.proofs.ReportLemmas.{report_slice_between}
use Rattle.swd_run.proofs.report.between.Goals as goal

pub returns : goal.returns
returns g c =
    report_slice_between c.args.from c.args.to c.args.items.now c.min-end.result c.min-start.result
    (omega (arith, c.min-end.ensures)) (omega (arith, c.min-start.ensures))
