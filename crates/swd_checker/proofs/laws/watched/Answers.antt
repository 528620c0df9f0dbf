use Rattle.swd_checker.proofs.WholeLemmas.{watched_breaks_are_right}
use Rattle.swd_checker.proofs.laws.watched.Goals as goal

pub returns : goal.returns
returns c = watched_breaks_are_right
