use Rattle.swd_checker.proofs.TransactLemmas.{loses_each}
use Rattle.swd_checker.proofs.HoldingLemmas.{worlds_keep_then}
use Rattle.swd_checker.proofs.worlds.Worlds.lose_any.Goals as goal

pub returns-clause-keeps : goal.returns-clause-keeps
returns-clause-keeps c = worlds_keep_then _ _ _ c.add.ensures.keeps
    (worlds_keep_then _ _ _ c.refuse.ensures.keeps c.accept_unseen.ensures.keeps)

pub returns-clause-loses : goal.returns-clause-loses
returns-clause-loses c = λ is. loses_each c.args.lost c.add.new.self c.refuse.new.self c.accept_unseen.new.self
    c.add.ensures.adds c.refuse.ensures.keeps c.refuse.ensures.refuses c.accept_unseen.ensures.keeps
    c.accept_unseen.ensures.accepts is

pub returns-clause-reaches : goal.returns-clause-reaches
returns-clause-reaches c = λ link old is h. c.accept_unseen.ensures.reaches link
    (c.refuse.ensures.reaches link (c.add.ensures.reaches link old h.nothing) is h.faults) is h.okays
