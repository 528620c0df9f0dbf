use Rattle.std.proofs.Common.{refl}
use Rattle.swd_host.specs.declared.task.Bursts.TheVariants.{Writes}
use Rattle.swd_steps.specs.Runs.{stepped_anew}
use Rattle.swd_steps.proofs.Stepping.{stepped_new_ran}
use Rattle.swd_steps.proofs.run.Run.new.Goals as goal

pub returns : goal.returns
returns c = λ list. stepped_new_ran (stepped_anew Writes c.args.tries) list c.beginning.result c.new.result
    refl c.new.ensures.new c.beginning.ensures.engine c.beginning.ensures.stage c.beginning.ensures.answered
