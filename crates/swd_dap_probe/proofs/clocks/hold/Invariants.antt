use Rattle.std.proofs.Common.{◌-◌, Some}
use Rattle.std.specs.Prelude.{replicate}
use Rattle.swd_dap_probe.proofs.ClockLemmas.{ClocksLead}
use Rattle.swd_dap_probe.proofs.clocks.hold.Given as goal

-- the clocks that are left make it whole
abbrev pub invariant-loop-place : goal.invariant-loop-place
invariant-loop-place g l = ClocksLead g.L.ProbeLine.clocks (replicate (l.count - l.place) (Some l.level))
    (replicate l.count (Some l.level)) l.fn.line l.line
