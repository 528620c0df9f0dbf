use Rattle.std.proofs.lemmas.Bool.{not-true}
use Rattle.swd_checker.proofs.TransactLemmas.{loses_okay, loses_okay_never, loses_okay_reached, asked_again}
use Rattle.swd_checker.proofs.worlds.Worlds.lose_okay.Goals as goal

pub returns-then-not-asked-clause-loses : goal.returns-then-not-asked-clause-loses
returns-then-not-asked-clause-loses c = λ seen s t is h okay d. loses_okay c.args.asked c.with_fault.result
    c.accept_unseen.new.self c.with_fault.ensures.same c.with_fault.ensures.world
    (λ may. c.accept_unseen.ensures.accepts) seen s t is h okay d

pub returns-else-not-asked-clause-loses : goal.returns-else-not-asked-clause-loses
returns-else-not-asked-clause-loses c = λ seen s t is h okay d. loses_okay_never c.args.asked c.args.self.now
    c.if-not-asked.false seen s t is h okay d

pub returns-then-not-asked-clause-reaches : goal.returns-then-not-asked-clause-reaches
returns-then-not-asked-clause-reaches c = λ link old is h. c.accept_unseen.ensures.reaches link old
    (asked_again c.args.asked c.with_fault.result c.with_fault.ensures.same c.with_fault.ensures.world is)
    (loses_okay_reached link c.args.asked c.with_fault.result c.with_fault.ensures.same c.with_fault.ensures.world
    (h (not-true c.args.asked.clean c.if-not-asked.true)))
