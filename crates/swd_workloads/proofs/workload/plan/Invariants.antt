use Rattle.swd_target.specs.Marks.{IsLegalPlan}
use Rattle.swd_workloads.proofs.workload.plan.Given as goal

abbrev pub invariant-loop : goal.invariant-loop
invariant-loop l = IsLegalPlan l.plan.items
