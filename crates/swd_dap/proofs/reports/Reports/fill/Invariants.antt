use Rattle.std.proofs.Common.{length, ◌-◌, ◌≤◌}
use Rattle.swd_dap.proofs.reports.Reports.fill.Given as goal

abbrev pub invariant-loop-at : goal.invariant-loop-at
invariant-loop-at g l = l.at ≤ length l.buffer

abbrev pub decreases-loop-at : goal.decreases-loop-at
decreases-loop-at g l = length l.initial.buffer - l.at
