use Rattle.swd_target.specs.Marks.{IsLegalPlan}
use Rattle.swd_conform_tests.proofs.tests.aims.marks.Given as goal

abbrev pub invariant-loop-now : goal.invariant-loop-now
invariant-loop-now l = IsLegalPlan l.plan.items
