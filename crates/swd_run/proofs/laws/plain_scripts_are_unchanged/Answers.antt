use Rattle.swd_run.proofs.LawLemmas.{until_free_unfolds_itself}
use Rattle.swd_run.proofs.laws.plain_scripts_are_unchanged.Goals as goal

pub returns : goal.returns
returns c = until_free_unfolds_itself
