use Rattle.swd_target.specs.Marks.{IsLegalPlan}
use Rattle.swd_conform_tests.proofs.tests.runs.waiting.Given as goal

abbrev pub invariant-loop-now : goal.invariant-loop-now
invariant-loop-now l = IsLegalPlan l.plan.items
