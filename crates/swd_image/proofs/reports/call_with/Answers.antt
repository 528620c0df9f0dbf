use Rattle.std.proofs.Common.{Option, Some, ap, subst, sym}
use Rattle.std.specs.Prelude.{IfErr, IfOk, List, ℕ}
use Rattle.swd_host.specs.Reports.{host_report_of}
use Rattle.swd_script.specs.Readers.{script_batch_listed}
use Rattle.swd_run.specs.Records.{run_file_held}
use Rattle.swd_image.specs.Reports.{MakesOne, ReportsTo}
use Rattle.swd_image.proofs.reports.call_with.Goals as goal

pub returns-in-Some-clause-call : goal.returns-in-Some-clause-call
returns-in-Some-clause-call g c =
    subst (λ (a : Option (Option (List ℕ))). IfOk c.report_call.result (λ made. MakesOne g.W.Wire c.args.limits
    (script_batch_listed c.args.batch.now) c.args.wire.now c.report_call.new.wire (host_report_of made) a
    (Some (g.O.Write.contents c.report_call.new.writer)))) (sym (ap (run_file_held g.O.Write.contents) c.in-Some.is))
    c.report_call.ensures.call

pub returns-in-Some-clause-report : goal.returns-in-Some-clause-report
returns-in-Some-clause-report g c =
    subst (λ (a : Option (Option (List ℕ))). IfErr c.report_call.result (λ fault. ReportsTo g.W.Wire c.args.limits
    (script_batch_listed c.args.batch.now).accesses (Some fault) c.args.wire.now c.report_call.new.wire a
    (Some (g.O.Write.contents c.report_call.new.writer)))) (sym (ap (run_file_held g.O.Write.contents) c.in-Some.is))
    c.report_call.ensures.report

pub returns-in-None-clause-call : goal.returns-in-None-clause-call
returns-in-None-clause-call g c =
    subst (λ (a : Option (Option (List ℕ))). IfOk c.silent_call.result (λ made. MakesOne g.W.Wire c.args.limits
    (script_batch_listed c.args.batch.now) c.args.wire.now c.silent_call.new.wire (host_report_of made) a a))
    (sym (ap (run_file_held g.O.Write.contents) c.in-None.is)) c.silent_call.ensures.call

pub returns-in-None-clause-report : goal.returns-in-None-clause-report
returns-in-None-clause-report g c =
    subst (λ (a : Option (Option (List ℕ))). IfErr c.silent_call.result (λ fault. ReportsTo g.W.Wire c.args.limits
    (script_batch_listed c.args.batch.now).accesses (Some fault) c.args.wire.now c.silent_call.new.wire a a))
    (sym (ap (run_file_held g.O.Write.contents) c.in-None.is)) c.silent_call.ensures.report
