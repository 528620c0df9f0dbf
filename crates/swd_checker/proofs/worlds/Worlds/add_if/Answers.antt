use Rattle.swd_checker.proofs.worlds.Worlds.add_if.Goals as goal

pub returns-then-condition-clause-reaches : goal.returns-then-condition-clause-reaches
returns-then-condition-clause-reaches c = λ link old h. c.add.ensures.reaches link old (h c.if-condition.true)
