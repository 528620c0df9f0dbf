use Rattle.swd_host.proofs.Starts.{engine_due_at_start}
use Rattle.swd_host.proofs.laws.started.Goals as goal

pub returns : goal.returns
returns c = engine_due_at_start
