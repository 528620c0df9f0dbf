use Rattle.swd_checker.proofs.HoldingLemmas.{worlds_keep_then}
use Rattle.swd_checker.proofs.worlds.Worlds.arrive_elsewhere.Goals as goal

pub returns-clause-keeps : goal.returns-clause-keeps
returns-clause-keeps c = worlds_keep_then _ _ _ c.add.ensures.keeps c.add-2.ensures.keeps

pub returns-clause-nothing : goal.returns-clause-nothing
returns-clause-nothing c = λ x d. c.add-2.ensures.keeps.each _ _ (c.add.ensures.adds x d)

pub returns-clause-reaches : goal.returns-clause-reaches
returns-clause-reaches c = λ link old a b. c.add-2.ensures.reaches link (c.add.ensures.reaches link old a) b
