use Rattle.std.proofs.Common.{◌*◌}
use Rattle.swd_conform.specs.Runs.{ConformMakes}
use Rattle.swd_conform.proofs.run.ConformRun.ask.Given as goal

abbrev pub invariant-loop-tried : goal.invariant-loop-tried
invariant-loop-tried g l = ConformMakes g.W.Wire.notes (2 * l.tried) l.fn.wire l.fn.self l.wire l.self
