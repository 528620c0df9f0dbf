use Rattle.swd_checker.proofs.StandingLemmas.{leaves_model}
use Rattle.swd_checker.proofs.checker.Checker.leave.Goals as goal

pub returns-clause-leaves : goal.returns-clause-leaves
returns-clause-leaves c = leaves_model c.args.self.now c.forget.new.self c.forget.ensures.keeps c.forget.ensures.opening
    c.forget.ensures.broken
