use Rattle.swd_checker.proofs.DescribedLemmas.{world_at_completion}
use Rattle.swd_checker.proofs.laws.completion.Goals as goal

pub returns : goal.returns
returns c = world_at_completion
