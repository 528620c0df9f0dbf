use Rattle.std.proofs.Common.{◌≡◌, length}
use Rattle.swd_c.proofs.Plans.{plan_stored}
use Rattle.swd_c.proofs.plan.store.Given as goal

abbrev pub invariant-loop-place : goal.invariant-loop-place
invariant-loop-place l = record {
  stored : l.plan ≡ plan_stored l.place l.coming l.fn.plan;
  room : length l.plan ≡ length l.fn.plan;
}
