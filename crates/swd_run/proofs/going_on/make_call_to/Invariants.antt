use Rattle.std.proofs.Common.{◌≡◌, ◌≤◌, List, length}
use Rattle.swd_host.specs.Fields.{host_report_to}
use Rattle.swd_script.specs.Readers.{script_batch_listed}
use Rattle.swd_run.specs.declared.going_on.Stop.{Stop}
use Rattle.swd_run.specs.Sessions.{batch_bursts}
use Rattle.swd_run.specs.GoingOn.{ScriptCallsFrom}
use Rattle.swd_run.proofs.going_on.make_call_to.Given as goal

abbrev pub invariant-loop-done : goal.invariant-loop-done
invariant-loop-done g l =
    let batch = script_batch_listed l.batch in
    record {
      number : length (g.K.AnswerSink.taken l.sink) ≤ length batch.accesses;
      room : length batch.accesses ≤ g.K.AnswerSink.most l.sink;
      plan : g.W.Wire.plan l.wire ≡ g.W.Wire.plan l.fn.wire;
      went : (stops : List Stop) × (length stops ≡ l.done) × g.K.RunSink.follows l.fn.sink stops l.sink
          × ScriptCallsFrom g.W.Wire l.options.opened (batch_bursts l.options.limits.bursts batch)
          batch.accesses l.options.limits.tries l.fn.wire stops (host_report_to (g.K.AnswerSink.taken l.sink) l.ending)
          l.wire;
    }
