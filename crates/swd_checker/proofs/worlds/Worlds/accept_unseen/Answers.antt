use Rattle.swd_checker.proofs.TransactLemmas.{accepts_unseen, accepts_none}
use Rattle.swd_checker.proofs.worlds.Worlds.accept_unseen.Goals as goal

pub returns-in-Some-clause-accepts : goal.returns-in-Some-clause-accepts
returns-in-Some-clause-accepts c = accepts_unseen c.args.lost c.in-Some.now c.return_unseen.new.self c.accepted.result
    c.in-Some.is c.accepted.ensures.same c.accepted.ensures.world c.return_unseen.ensures.returns

pub returns-in-None-clause-accepts : goal.returns-in-None-clause-accepts
returns-in-None-clause-accepts c = accepts_none c.args.lost c.args.self.now c.accepted.result c.in-None.is
    c.accepted.ensures.world
