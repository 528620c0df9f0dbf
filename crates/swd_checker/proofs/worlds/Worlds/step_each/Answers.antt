use Rattle.std.proofs.Common.{arith}
use Rattle.swd_checker.specs.Checked.{CheckedTransacts}
use Rattle.swd_checker.proofs.EachLemmas.{transacted_none, transacted_next, stepped_all}
use Rattle.swd_checker.proofs.worlds.Worlds.step_each.Goals as goal

pub loop-kept-init : goal.loop-kept-init
loop-kept-init c = transacted_none c.args.clean c.args.tx.now c.args.before.now c.args.self.now

pub loop-kept-preserved : goal.loop-kept-preserved
loop-kept-preserved c = transacted_next c.args.clean c.args.tx.now c.args.before.now c.loop-kept.kept-index
    c.args.self.now c.loop-kept.self c.step.new.self _ c.loop-kept-test.true c.step.ensures.keeps c.step.ensures.steps
    c.step.ensures.reaches c.loop-kept.invariant

pub returns-clause-steps : goal.returns-clause-steps
returns-clause-steps c = λ s t h held.
    stepped_all (λ s t. CheckedTransacts c.args.clean c.args.tx.now.result c.args.tx.now.request s t)
    c.args.before.now c.loop-kept.kept-index c.args.self.now c.loop-kept.self (omega arith)
    c.loop-kept.invariant.stepped
    s t h held

pub returns-clause-reaches : goal.returns-clause-reaches
returns-clause-reaches c = c.loop-kept.invariant.reaches
