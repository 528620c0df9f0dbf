use Rattle.swd_target.specs.Marks.{IsLegalPlan}
use Rattle.swd_run_tests.proofs.tests.flash.plan.Given as goal

abbrev pub invariant-loop-now : goal.invariant-loop-now
invariant-loop-now l = IsLegalPlan l.plan.items
