use Rattle.std.proofs.Common.{arith, ap, refl}
use Rattle.swd_conform.specs.Plans.{conform_steps_left}
use Rattle.swd_conform.proofs.RunLemmas.{conform_goes_none, conform_goes_trans, conform_reports}
use Rattle.swd_conform.proofs.over_wire.conform.Goals as goal

pub steps-init : goal.steps-init
steps-init g c = record {
  begins = c.new-run.ensures;
  goes = conform_goes_none g.W.Wire.notes _ _ _ refl refl refl;
  bound = omega (arith, c.new-run.ensures.requests, ap conform_steps_left c.new-run.ensures.plan_of);
}

pub steps-preserved : goal.steps-preserved
steps-preserved g c = record {
  begins = c.steps.invariant.begins;
  goes = conform_goes_trans g.W.Wire.notes _ _ _ _ _ _ c.steps.invariant.goes c.turn.ensures.goes;
  bound = omega (arith, c.steps.invariant.bound, c.turn.ensures.bound);
}

pub returns-then-not-turn-clause-reports : goal.returns-then-not-turn-clause-reports
returns-then-not-turn-clause-reports g c =
    let begins = c.steps.invariant.begins in
    conform_reports g.W.Wire.notes _ _ _ _ _ _ _ begins.bounds_of begins.check_of begins.calls
    (conform_goes_trans g.W.Wire.notes _ _ _ _ _ _ c.steps.invariant.goes c.turn.ensures.goes) c.conformed.ensures

pub returns-then-not-turn-clause-bound : goal.returns-then-not-turn-clause-bound
returns-then-not-turn-clause-bound g c =
    omega (arith, c.steps.invariant.bound, c.turn.ensures.bound, c.conformed.ensures.requests)
