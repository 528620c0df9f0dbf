use Rattle.swd_checker.proofs.DescribedLemmas.{world_at_idle, world_at_reset}
use Rattle.swd_checker.proofs.laws.leads.Goals as goal

pub returns : goal.returns
returns c = record { idle = world_at_idle; reset = world_at_reset }
