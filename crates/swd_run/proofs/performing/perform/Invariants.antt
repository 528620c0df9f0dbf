use Rattle.std.proofs.Common.{◌≡◌, ◌≤◌}
use Rattle.swd_script.specs.Readers.{script_batch_listed}
use Rattle.swd_run.specs.Sessions.{script_run_of}
use Rattle.swd_run.proofs.UnfoldingLemmas.{Asking}
use Rattle.swd_run.proofs.performing.perform.Given as goal

abbrev pub invariant-loop-runs : goal.invariant-loop-runs
invariant-loop-runs g l = record {
  asking : Asking g.W.Wire l.options.opened l.options.limits
      (script_batch_listed l.batch) l.fn.wire l.until l.runs (script_run_of l.last) l.wire;
  low : l.runs ≤ l.until.most;
  plan : g.W.Wire.plan l.wire ≡ g.W.Wire.plan l.fn.wire;
}
