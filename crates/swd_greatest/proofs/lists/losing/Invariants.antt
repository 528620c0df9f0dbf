use Rattle.swd_target.specs.Marks.{IsLegalPlan}
use Rattle.swd_greatest.proofs.lists.losing.Given as goal

abbrev pub invariant-loop-place : goal.invariant-loop-place
invariant-loop-place l = IsLegalPlan l.plan.items
