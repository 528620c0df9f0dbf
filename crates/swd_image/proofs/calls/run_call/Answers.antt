use Rattle.std.proofs.Common.{◌≡◌, ◌∙◌, ℕ, List, length, sym, ap, Option, None, Some}
use Rattle.swd_port.specs.declared.access.Access.{Access}
use Rattle.swd_port.specs.declared.access.Answer.{Answer}
use Rattle.swd_host.specs.Reports.{HostReport, host_report_of}
use Rattle.swd_script.specs.Readers.{script_batch_listed}
use Rattle.swd_image.specs.declared.fault.ImageFault.TheVariants.{Stopped, BusFault as FaultAt}
use Rattle.swd_image.specs.Sessions.{image_first_failed}
use Rattle.swd_image.proofs.CallLemmas.{image_accesses_all_done, answered_all, call_fails}
use Rattle.swd_image.proofs.ReportLemmas.{to_one}
use Rattle.swd_image.proofs.calls.run_call.Goals as goal

pub returns-in_default : goal.returns-in_default
returns-in_default g c =
    let made = c.in_ok-made.ensures.call in
    let ended = ap (λ (x : HostReport). x.ended) made.last in
    record {
      call = tt;
      due = tt;
      fault = call_fails g.W.Wire c.args.limits c.args.wire.now
          c.make_call.new.wire (script_batch_listed c.args.batch.now) made.run _ made.call
          (ended, c.in_default.not-All);
      report = to_one g.W.Wire c.args.limits c.args.wire.now
          c.make_call.new.wire (script_batch_listed c.args.batch.now) (host_report_of c.in_ok-made.made)
          (Some (Stopped c.in_ok-made.made.ended)) (g.S.CallReports.held c.args.report.now)
          (g.S.CallReports.held c.make_call.new.self) made
          c.requires.plain (λ e. absurd cc) (λ end e. cc) (λ e. cc);
      plan = c.in_ok-made.ensures.plan;
    }

pub first_failed-requires : goal.first_failed-requires
first_failed-requires g c =
    let made = c.in_ok-made.ensures.call in
    let ended = ap (λ (x : HostReport). x.ended) made.last in
    ap length c.as_slice-2.ensures.value ∙ sym (ap (λ (x : HostReport). length x.answers) made.last)
    ∙ answered_all g.W.Wire _ (script_batch_listed c.args.batch.now).accesses
    c.args.limits.tries
    c.args.wire.now made.run.stops made.run.told c.make_call.new.wire made.call.goes.went (ended ∙ c.in-All.is)
    ∙ sym (ap length c.as_slice.ensures.value)

-- what the slices' first failed access is, it is of the call
failed : (list : List Access) (xs : List Access) (answers vs : List Answer) (r s : Option ℕ)
    → r ≡ image_first_failed xs vs → xs ≡ list → vs ≡ answers → r ≡ s → image_first_failed list answers ≡ s
failed list xs answers vs r s e f g h =
    sym (ap (λ l. image_first_failed l vs) f ∙ ap (λ l. image_first_failed list l) g) ∙ sym e ∙ h

pub returns-in-Some-clause-fault : goal.returns-in-Some-clause-fault
returns-in-Some-clause-fault g c =
    let made = c.in_ok-made.ensures.call in
    let ended = ap (λ (x : HostReport). x.ended) made.last in
    call_fails g.W.Wire c.args.limits c.args.wire.now
    c.make_call.new.wire (script_batch_listed c.args.batch.now) made.run _ made.call (
      ended ∙ c.in-All.is,
      failed (script_batch_listed c.args.batch.now).accesses c.as_slice.result.now made.run.told.answers
          c.as_slice-2.result.now c.first_failed.result (Some c.in-Some.addr) c.first_failed.ensures
          c.as_slice.ensures.value (c.as_slice-2.ensures.value ∙ sym (ap (λ (x : HostReport). x.answers) made.last))
          c.in-Some.is,
    )

pub returns-in-Some-clause-report : goal.returns-in-Some-clause-report
returns-in-Some-clause-report g c =
    to_one g.W.Wire c.args.limits c.args.wire.now
    c.make_call.new.wire (script_batch_listed c.args.batch.now) (host_report_of c.in_ok-made.made)
    (Some (FaultAt c.in-Some.addr))
    (g.S.CallReports.held c.args.report.now) (g.S.CallReports.held c.make_call.new.self)
    c.in_ok-made.ensures.call c.requires.plain (λ e. absurd cc) (λ end e. absurd cc) (λ e. cc)

pub returns-in-None-clause-call : goal.returns-in-None-clause-call
returns-in-None-clause-call g c =
    let made = c.in_ok-made.ensures.call in
    let ended = ap (λ (x : HostReport). x.ended) made.last ∙ c.in-All.is in
    let answers = ap (λ (x : HostReport). x.answers) made.last in (
      made.run,
      answers,
      made.call,
      ended,
      image_accesses_all_done (script_batch_listed c.args.batch.now).accesses made.run.told.answers
          (answered_all g.W.Wire _ (script_batch_listed c.args.batch.now).accesses
          c.args.limits.tries c.args.wire.now made.run.stops made.run.told c.make_call.new.wire
          made.call.goes.went ended)
          (failed (script_batch_listed c.args.batch.now).accesses c.as_slice.result.now made.run.told.answers
          c.as_slice-2.result.now c.first_failed.result None c.first_failed.ensures c.as_slice.ensures.value
          (c.as_slice-2.ensures.value ∙ sym answers) c.in-None.is),
    )

pub returns-in-None-clause-report : goal.returns-in-None-clause-report
returns-in-None-clause-report g c =
    to_one g.W.Wire c.args.limits c.args.wire.now
    c.make_call.new.wire (script_batch_listed c.args.batch.now) (host_report_of c.in_ok-made.made) None
    (g.S.CallReports.held c.args.report.now) (g.S.CallReports.held c.make_call.new.self)
    c.in_ok-made.ensures.call c.requires.plain (λ e. c.in-All.is) (λ end e. absurd cc) (λ e. cc)
