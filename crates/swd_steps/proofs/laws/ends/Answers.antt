use Rattle.swd_steps.proofs.Ending.{stepped_run_ends}
use Rattle.swd_steps.proofs.laws.ends.Goals as goal

pub returns : goal.returns
returns c = stepped_run_ends
