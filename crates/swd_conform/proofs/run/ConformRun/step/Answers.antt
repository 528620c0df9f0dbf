use Rattle.std.proofs.Common.{arith}
use Rattle.swd_conform.proofs.RunLemmas.{conform_goes_step}
use Rattle.swd_conform.proofs.run.ConformRun.step.Goals as goal

pub returns-clause-makes : goal.returns-clause-makes
returns-clause-makes g c = record {
  goes = conform_goes_step g.W.Wire.notes c.args.cue c.step-seen.result _ _ _ _ c.step-seen.ensures.notes
      c.record.ensures.calls c.record.ensures.takes c.record.ensures.bounds;
  requests = omega (arith, c.record.ensures.asked);
  left = c.record.ensures.left;
}
