use Rattle.swd_checker.proofs.OkayLemmas.{world_at_okay}
use Rattle.swd_checker.proofs.laws.confirmations.Goals as goal

pub returns : goal.returns
returns c = world_at_okay
