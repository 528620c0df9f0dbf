use Rattle.std.proofs.Common.{refl}
use Rattle.swd_host.specs.Engines.{engine_bursts}
use Rattle.swd_steps.specs.Runs.{stepped_again}
use Rattle.swd_steps.proofs.Stepping.{stepped_new_ran}
use Rattle.swd_steps.proofs.run.Run.again.Goals as goal

pub returns-in-Ended-Lost-clause-again : goal.returns-in-Ended-Lost-clause-again
returns-in-Ended-Lost-clause-again c = λ list.
    stepped_new_ran (stepped_again (engine_bursts c.args.self.now.engine) c.args.self.now.answered c.args.tries) list
    c.beginning.result c.resumed.result refl c.resumed.ensures.again c.beginning.ensures.engine
    c.beginning.ensures.stage c.beginning.ensures.answered
