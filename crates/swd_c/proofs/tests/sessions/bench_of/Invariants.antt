use Rattle.swd_target.specs.Marks.{IsLegalPlan}
use Rattle.swd_c.proofs.tests.sessions.bench_of.Given as goal

abbrev pub invariant-loop-place : goal.invariant-loop-place
invariant-loop-place g l = IsLegalPlan l.plan.items
