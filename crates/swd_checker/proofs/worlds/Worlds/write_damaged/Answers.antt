use Rattle.std.proofs.Common.{refl, subst, sym}
use Rattle.swd_checker.proofs.ArrivalLemmas.{damage_added, damage_later, cured_as}
use Rattle.swd_checker.proofs.HoldingLemmas.{worlds_keep_then}
use Rattle.swd_checker.specs.Reaching.{WorldReaches}
use Rattle.swd_checker.proofs.ReachLemmas.{not_true, reach_cured}
use Rattle.swd_checker.proofs.worlds.Worlds.write_damaged.Goals as goal

pub returns-then-not-now-clause-keeps : goal.returns-then-not-now-clause-keeps
returns-then-not-now-clause-keeps c = worlds_keep_then _ _ _ c.add.ensures.keeps c.cure.ensures.keeps

pub returns-then-not-now-clause-damages : goal.returns-then-not-now-clause-damages
returns-then-not-now-clause-damages c = damage_later c.add.new.self c.cure.new.self c.args.now.world
    c.after_damage.result c.add.ensures.adds c.after_damage.ensures c.cure.ensures.keeps

pub returns-then-not-now-clause-cures : goal.returns-then-not-now-clause-cures
returns-then-not-now-clause-cures c = λ dirty place inside. cured_as c.args.now c.with_fault.result c.cure.new.self
    _ c.with_fault.ensures.same c.with_fault.ensures.world
    (c.cure.ensures.cures _ (c.seen.ensures.changed refl place inside))

pub returns-else-not-now-clause-damages : goal.returns-else-not-now-clause-damages
returns-else-not-now-clause-damages c = damage_added c.add.new.self c.args.now.world c.after_damage.result
    c.add.ensures.adds c.after_damage.ensures

pub returns-then-not-now-clause-reaches : goal.returns-then-not-now-clause-reaches
returns-then-not-now-clause-reaches c = λ link old damages h. c.cure.ensures.reaches link
    (c.add.ensures.reaches link old (subst (WorldReaches link) (sym c.after_damage.ensures) damages))
    (λ place inside. reach_cured link c.args.now c.with_fault.result c.args.word place c.seen.result
    c.with_fault.ensures.same c.with_fault.ensures.world c.seen.ensures.exact
    (h (not_true c.args.now.clean c.if-not-now.true) place inside))

pub returns-else-not-now-clause-reaches : goal.returns-else-not-now-clause-reaches
returns-else-not-now-clause-reaches c = λ link old damages h. c.add.ensures.reaches link old
    (subst (WorldReaches link) (sym c.after_damage.ensures) damages)
