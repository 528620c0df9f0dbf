use Rattle.std.proofs.Common.{subst}
use Rattle.swd_conform.specs.Runs.{ConformMakes}
use Rattle.swd_conform.proofs.run.ConformRun.call.Goals as goal

pub returns-clause-makes : goal.returns-clause-makes
returns-clause-makes g c =
    subst (λ most. ConformMakes g.W.Wire.notes most c.args.wire.now c.args.self.now c.step.new.wire c.step.new.self)
    c.requires.none c.step.ensures.makes
