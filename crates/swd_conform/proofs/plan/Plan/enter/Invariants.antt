use Rattle.std.proofs.Common.{◌≡◌}
use Rattle.swd_conform.specs.Plans.{conform_steps_left}
use Rattle.swd_conform.proofs.plan.Plan.enter.Given as goal

abbrev pub invariant-loop : goal.invariant-loop
invariant-loop l = (conform_steps_left l.self ≡ conform_steps_left l.fn.self) × (l.self.bounds ≡ l.fn.self.bounds)
