use Rattle.std.proofs.Common.{refl}
use Rattle.swd_steps.specs.Runs.{stepped_anew}
use Rattle.swd_steps.proofs.Stepping.{stepped_new_ran}
use Rattle.swd_steps.proofs.run.Run.opening.Goals as goal

pub returns : goal.returns
returns c = λ list. stepped_new_ran (stepped_anew c.args.bursts c.args.tries) list c.beginning.result c.opening.result
    refl c.opening.ensures.new c.beginning.ensures.engine c.beginning.ensures.stage c.beginning.ensures.answered
