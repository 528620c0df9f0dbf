use Rattle.std.proofs.Common.{◌-◌, Some, map}
use Rattle.swd_dap_probe.specs.Sequences.{dap_bits}
use Rattle.swd_dap_probe.proofs.ClockLemmas.{ClocksLead}
use Rattle.swd_dap_probe.proofs.sequences.drive_bits.Given as goal

-- the bits that are left make it whole
abbrev pub invariant-loop-place : goal.invariant-loop-place
invariant-loop-place g l = ClocksLead g.L.ProbeLine.clocks (map Some (dap_bits l.bytes l.place (l.count - l.place)))
    (map Some (dap_bits l.bytes 0 l.count)) l.fn.line l.line
