use Rattle.swd_checker.proofs.DescribedLemmas.{world_at_wait, world_at_fault}
use Rattle.swd_checker.proofs.laws.refusals.Goals as goal

pub returns : goal.returns
returns c = record { wait = world_at_wait; fault = world_at_fault }
