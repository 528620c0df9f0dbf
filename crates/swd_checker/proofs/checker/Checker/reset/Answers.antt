use Rattle.swd_checker.proofs.FittingLemmas.{follows_reset}
use Rattle.swd_checker.proofs.StandingLemmas.{worlds_are_reset}
use Rattle.swd_checker.proofs.checker.Checker.reset.Goals as goal

pub returns-clause-watches : goal.returns-clause-watches
returns-clause-watches c = λ ones. worlds_are_reset c.args.self.now c.reset.new.self ones c.reset.ensures.crowded
    c.reset.ensures.resets

pub returns-clause-follows : goal.returns-clause-follows
returns-clause-follows c = λ ones. follows_reset c.args.self.now c.reset.new.self ones c.reset.ensures.reaches
    c.reset.ensures.some
