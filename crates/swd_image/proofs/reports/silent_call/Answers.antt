use Rattle.std.proofs.Common.{[], refl, sym}
use Rattle.swd_host.specs.Fields.{host_report_to}
use Rattle.swd_script.specs.Readers.{script_batch_listed}
use Rattle.swd_image.specs.Sessions.{none}
use Rattle.swd_image.proofs.CallLemmas.{stops_next}
use Rattle.swd_image.proofs.reports.silent_call.Goals as goal

pub returns-in_default-clause-fault : goal.returns-in_default-clause-fault
returns-in_default-clause-fault g c =
    let list = (script_batch_listed c.args.batch.now).accesses in
    stops_next g.W.Wire c.args.limits c.args.wire.now c.args.wire.now [] list list [] none refl

pub returns-in_default-clause-report : goal.returns-in_default-clause-report
returns-in_default-clause-report g c = (refl, λ e. cc)

pub returns-clause-call : goal.returns-clause-call
returns-clause-call g c =
    let (stops, follows, goes) = c.in-Ok-run_on_to.ensures.goes in
    record {
      run = record { stops = stops; told = host_report_to c.run_on_to.new.sink.answers.items c.in-Ok-run_on_to.ending };
      last = sym c.with.ensures;
      call = record { fits = c.requires.batch; goes = goes };
      writes = refl;
    }
