use Rattle.swd_checker.proofs.DescribedLemmas.{world_at_damage}
use Rattle.swd_checker.proofs.laws.damage.Goals as goal

pub returns : goal.returns
returns c = world_at_damage
