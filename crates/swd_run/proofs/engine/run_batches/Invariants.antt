use Rattle.swd_port.specs.Laws.Calls.{port_with_asked}
use Rattle.swd_run.specs.Records.{run_file_held}
use Rattle.swd_run.proofs.engine.run_batches.Given as goal

abbrev pub ghosts-run_recorded : goal.ghosts-run_recorded
ghosts-run_recorded g a = record {
  start = port_with_asked 0 (g.W.Wire.port a.wire);
  before = run_file_held g.T.Write.contents a.records.now.trace;
  noted = λ calls. g.W.Wire.notes calls a.wire;
}
