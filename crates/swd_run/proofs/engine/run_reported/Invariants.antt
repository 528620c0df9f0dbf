use Rattle.std.proofs.Common.{◌≡◌, ◌≤◌, false, length, map}
use Rattle.swd_port.specs.declared.wire.Due.TheVariants.{Nothing}
use Rattle.swd_host.specs.declared.outcome.End.TheVariants.{All}
use Rattle.swd_script.specs.Readers.{script_batch_listed}
use Rattle.swd_run.proofs.Reported.{SoFar}
use Rattle.swd_run.proofs.engine.run_reported.Given as goal

abbrev pub invariant-loop-batch : goal.invariant-loop-batch
invariant-loop-batch g l = record {
  so_far : SoFar g.W.Wire l.limits (map script_batch_listed l.batches)
      l.fn.wire (g.O.Write.contents l.fn.report) l.batch-index l.wire (g.O.Write.contents l.report) l.finished
      l.written l.opened;
  all : l.finished.ended ≡ All;
  came : l.finished.never_came ≡ false;
  low : l.batch-index ≤ length l.batches;
  due : (g.W.Wire.port l.wire).link.due ≡ Nothing;
  plan : g.W.Wire.plan l.wire ≡ g.W.Wire.plan l.fn.wire;
}
