use Rattle.swd_checker.proofs.StandingLemmas.{not_some}
use Rattle.swd_checker.proofs.checker.Checker.verdict.Goals as goal

pub returns-in-Some-clause-breaks : goal.returns-in-Some-clause-breaks
returns-in-Some-clause-breaks c = λ e. not_some c.args.self.now.broken _ c.in-Some.is
