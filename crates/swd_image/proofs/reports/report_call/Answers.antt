use Rattle.std.proofs.Common.{[], Some, refl, subst, sym}
use Rattle.swd_host.specs.Reports.{host_report_of}
use Rattle.swd_script.specs.Readers.{script_batch_listed}
use Rattle.swd_run.specs.Reports.{ReportsBatchRun}
use Rattle.swd_image.specs.declared.fault.ImageFault.TheVariants.{Memory}
use Rattle.swd_image.specs.Reports.{ReportsTo}
use Rattle.swd_image.specs.Sessions.{FailsNext, none}
use Rattle.swd_image.proofs.CallLemmas.{call_fails, stops_next}
use Rattle.swd_image.proofs.ReportLemmas.{to_failed, to_unmade}
use Rattle.swd_image.proofs.reports.report_call.Goals as goal

pub returns-in_default-clause-fault : goal.returns-in_default-clause-fault
returns-in_default-clause-fault g c =
    let list = (script_batch_listed c.args.batch.now).accesses in
    let s = c.args.wire.now in
    subst (FailsNext g.W.Wire c.args.limits list s) (sym c.in_default.ensures.unsent)
    (stops_next g.W.Wire c.args.limits s s [] list list [] none refl)

pub returns-in_default-clause-report : goal.returns-in_default-clause-report
returns-in_default-clause-report g c =
    let list = (script_batch_listed c.args.batch.now).accesses in
    let Reports = ReportsTo g.W.Wire c.args.limits list (Some Memory) c.args.wire.now in
    let start = g.O.Write.contents c.args.writer.now in
    subst (λ w. Reports w (Some start) (Some (g.O.Write.contents c.run_on_reporting.new.report)))
    (sym c.in_default.ensures.unsent)
    (subst (λ b. Reports c.args.wire.now (Some start) (Some b)) (sym c.in_default.ensures.unwritten)
    (to_unmade g.W.Wire c.args.limits c.args.wire.now list (Some start)))

pub returns-in-Err-clause-fault : goal.returns-in-Err-clause-fault
returns-in-Err-clause-fault g c =
    let h = c.in-Some.ensures.reports in
    call_fails g.W.Wire c.args.limits c.args.wire.now c.run_on_reporting.new.wire (script_batch_listed c.args.batch.now)
    h.run _ (record { fits = c.requires.batch; goes = h.goes }) tt

pub returns-in-Err-clause-report : goal.returns-in-Err-clause-report
returns-in-Err-clause-report g c =
    let batch = script_batch_listed c.args.batch.now in
    let t = c.run_on_reporting.new.wire in
    let start = g.O.Write.contents c.args.writer.now in
    let now = g.O.Write.contents c.run_on_reporting.new.report in
    let told = host_report_of c.in-Some.reported.report in
    to_failed g.W.Wire c.args.limits c.args.wire.now t batch told c.in-Err.field-0 start now
    (subst (λ w. ReportsBatchRun g.W.Wire c.args.limits batch c.args.wire.now t start now told w) c.in-Err.is
    c.in-Some.ensures.reports)
    c.requires.plain c.requires.batch
