use Rattle.std.proofs.Common.{◌-◌, Some, map}
use Rattle.swd_bits.specs.Bits.{low_bits}
use Rattle.swd_dap_probe.proofs.ClockLemmas.{ClocksLead}
use Rattle.swd_dap_probe.proofs.clocks.drive.Given as goal

-- the clocks that are left make it whole
abbrev pub invariant-loop-place : goal.invariant-loop-place
invariant-loop-place g l = ClocksLead g.L.ProbeLine.clocks (map Some (low_bits (l.count - l.place) l.rest))
    (map Some (low_bits l.count l.bits)) l.fn.line l.line
