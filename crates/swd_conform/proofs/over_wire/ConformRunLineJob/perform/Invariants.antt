use Rattle.std.proofs.Common.{◌≡◌}
use Rattle.swd_port.specs.Outside.{wire_calls}
use Rattle.swd_conform.specs.Runs.{ConformGoes, conform_run_left}
use Rattle.swd_conform.proofs.over_wire.ConformRunLineJob.perform.Given as goal

abbrev pub invariant-steps : goal.invariant-steps
invariant-steps g l = ConformGoes (λ calls w. wire_calls w ≡ calls) l.fn.wire l.fn.self l.wire l.self

abbrev pub decreases-steps : goal.decreases-steps
decreases-steps g l = conform_run_left l.self
