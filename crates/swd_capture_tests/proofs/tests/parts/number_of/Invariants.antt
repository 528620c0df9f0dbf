use Rattle.std.proofs.Common.{◌-◌, ◌≤◌, length}
use Rattle.swd_capture_tests.proofs.tests.parts.number_of.Given as goal

abbrev pub invariant-loop-count : goal.invariant-loop-count
invariant-loop-count l = record {
  most : l.count ≤ 64;
  within : l.count ≤ length l.bits;
}

abbrev pub decreases-loop-count : goal.decreases-loop-count
decreases-loop-count l = 64 - l.count
