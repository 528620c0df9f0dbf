use Rattle.swd_conform.specs.Runs.{ConformMakes}
use Rattle.swd_conform.proofs.run.ConformRun.power.Given as goal

abbrev pub invariant-loop-read : goal.invariant-loop-read
invariant-loop-read g l = ConformMakes g.W.Wire.notes l.read l.fn.wire l.fn.self l.wire l.self
