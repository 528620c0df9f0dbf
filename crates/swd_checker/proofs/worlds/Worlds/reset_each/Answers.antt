use Rattle.std.proofs.Common.{arith}
use Rattle.swd_checker.proofs.EachLemmas.{reset_none, reset_next, reset_all, reset_grows}
use Rattle.swd_checker.proofs.worlds.Worlds.reset_each.Goals as goal

pub loop-kept-init : goal.loop-kept-init
loop-kept-init c = reset_none c.args.before.now c.args.self.now

pub loop-kept-preserved : goal.loop-kept-preserved
loop-kept-preserved c = reset_next c.args.before.now c.loop-kept.kept-index c.args.self.now c.loop-kept.self
    c.add.new.self _ c.after_reset.result c.loop-kept-test.true c.after_reset.ensures c.add.ensures.keeps
    c.add.ensures.adds c.add.ensures.grows c.add.ensures.some c.add.ensures.reaches c.loop-kept.invariant

pub returns-clause-resets : goal.returns-clause-resets
returns-clause-resets c = λ ones s t some leads held. reset_all c.args.before.now c.loop-kept.kept-index
    c.args.self.now c.loop-kept.self (omega arith) c.loop-kept.invariant ones s t some leads held

pub returns-clause-grows : goal.returns-clause-grows
returns-clause-grows c = reset_grows c.args.before.now c.loop-kept.kept-index c.args.self.now c.loop-kept.self
    c.loop-kept.auto.kept-index-end c.loop-kept.invariant

pub returns-clause-reaches : goal.returns-clause-reaches
returns-clause-reaches c = c.loop-kept.invariant.reaches

pub returns-clause-some : goal.returns-clause-some
returns-clause-some c = λ below. c.loop-kept.invariant.some (omega arith)
