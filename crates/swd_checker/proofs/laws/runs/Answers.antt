use Rattle.swd_checker.proofs.ShownLemmas.{observed_runs_are_shown}
use Rattle.swd_checker.proofs.laws.runs.Goals as goal

pub returns : goal.returns
returns c = observed_runs_are_shown
