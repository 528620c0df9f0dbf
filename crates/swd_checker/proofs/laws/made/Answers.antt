use Rattle.swd_checker.proofs.OkayLemmas.{world_at_made}
use Rattle.swd_checker.proofs.laws.made.Goals as goal

pub returns : goal.returns
returns c = world_at_made
