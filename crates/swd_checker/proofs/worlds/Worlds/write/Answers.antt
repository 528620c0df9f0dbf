use Rattle.swd_checker.proofs.ArrivalLemmas.{damage_kept}
use Rattle.swd_checker.proofs.HoldingLemmas.{worlds_keep_then}
use Rattle.std.proofs.Common.{subst, sym}
use Rattle.swd_checker.specs.Reaching.{WorldReaches}
use Rattle.swd_checker.proofs.ReachLemmas.{not_true}
use Rattle.swd_checker.proofs.worlds.Worlds.write.Goals as goal

pub returns-clause-keeps : goal.returns-clause-keeps
returns-clause-keeps c = worlds_keep_then _ _ _ c.add_if.ensures.keeps c.arrive.ensures.keeps

pub returns-clause-damages : goal.returns-clause-damages
returns-clause-damages c = λ dirty. damage_kept c.add_if.new.self c.arrive.new.self c.args.now.world
    c.after_damage.result c.args.now.clean dirty c.add_if.ensures.adds c.after_damage.ensures c.arrive.ensures.keeps

pub returns-clause-reaches : goal.returns-clause-reaches
returns-clause-reaches c = λ link old damages h. c.arrive.ensures.reaches link
    (c.add_if.ensures.reaches link old (λ dirty. subst (WorldReaches link) (sym c.after_damage.ensures)
    (damages (not_true c.args.now.clean dirty)))) h
