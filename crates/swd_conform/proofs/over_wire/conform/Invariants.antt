use Rattle.std.proofs.Common.{◌+◌, ◌*◌, ◌≤◌}
use Rattle.swd_conform.specs.Plans.{conform_steps_left}
use Rattle.swd_conform.specs.Runs.{ConformBegins, ConformGoes, conform_run_left}
use Rattle.swd_conform.proofs.over_wire.conform.Given as goal

abbrev pub invariant-steps : goal.invariant-steps
invariant-steps g l = record {
  begins : ConformBegins l.fn.plan l.fn.check l.initial.run;
  goes : ConformGoes g.W.Wire.notes l.fn.wire l.initial.run l.wire l.run;
  bound : l.run.requests + 256 * conform_run_left l.run ≤ 256 * conform_steps_left l.fn.plan;
}

abbrev pub decreases-steps : goal.decreases-steps
decreases-steps g l = conform_run_left l.run
