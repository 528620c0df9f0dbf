use Rattle.std.proofs.Common.{refl, subst}
use Rattle.swd_checker.specs.Holding.{IsKeptJoined}
use Rattle.swd_checker.specs.Reaching.{IsReachedJoined}
use Rattle.swd_checker.proofs.KeptLemmas.{adding_reached_last, adding_reached_full}
use Rattle.swd_checker.proofs.HoldingLemmas.{worlds_adding_first}
use Rattle.swd_checker.proofs.HoldingLemmas.{worlds_adding_joined, worlds_adding_keeps, worlds_adding_adds}
use Rattle.swd_checker.proofs.HoldingLemmas.{worlds_adding_full, worlds_adding_grows, worlds_are_full}
use Rattle.swd_checker.proofs.worlds.Worlds.add.Goals as goal

pub loop-init : goal.loop-init
loop-init c = worlds_adding_first c.args.self.now c.args.world c.args.faults

pub loop-preserved : goal.loop-preserved
loop-preserved c = worlds_adding_joined c.args.self.now c.args.world c.loop.self _ c.loop.added c.in-Some.found.1
    c.in-Some.found.0 refl c.remove.ensures.items
    (subst (IsKeptJoined c.loop.self.kept.items c.loop.added) c.in-Some.is c.joining.ensures.joined)
    (subst (IsReachedJoined c.loop.self.kept.items c.loop.added) c.in-Some.is c.joining.ensures.reaches)
    c.loop.invariant

pub returns-else-is_full-clause-keeps : goal.returns-else-is_full-clause-keeps
returns-else-is_full-clause-keeps c = worlds_adding_keeps c.args.self.now c.args.world c.loop.self _ c.loop.added refl
    c.push.ensures.items c.loop.invariant

pub returns-else-is_full-clause-adds : goal.returns-else-is_full-clause-adds
returns-else-is_full-clause-adds c = worlds_adding_adds c.args.self.now c.args.world c.loop.self _ c.loop.added refl
    c.push.ensures.items c.loop.invariant

pub returns-then-is_full-clause-grows : goal.returns-then-is_full-clause-grows
returns-then-is_full-clause-grows c = worlds_adding_full c.args.self.now c.args.world c.loop.self _ c.loop.added refl
    (worlds_are_full _ _ c.is_full.ensures.value c.if-is_full.true) c.loop.invariant

pub returns-else-is_full-clause-grows : goal.returns-else-is_full-clause-grows
returns-else-is_full-clause-grows c = worlds_adding_grows c.args.self.now c.args.world c.loop.self _ c.loop.added refl
    c.push.ensures.items c.loop.invariant

pub returns-then-is_full-clause-reaches : goal.returns-then-is_full-clause-reaches
returns-then-is_full-clause-reaches c = λ link all reached. adding_reached_full link c.loop.self.kept.items _
    c.loop.added refl (c.loop.invariant.reaches link all reached)

pub returns-else-is_full-clause-reaches : goal.returns-else-is_full-clause-reaches
returns-else-is_full-clause-reaches c = λ link all reached. adding_reached_last link c.loop.self.kept.items _
    c.loop.added c.push.ensures.items (c.loop.invariant.reaches link all reached)
