use Rattle.std.proofs.Common.{◌+◌, ◌-◌}
use Rattle.swd_dap_probe.proofs.StepLemmas.{SeeksLead}
use Rattle.swd_dap_probe.proofs.transfers.seek.Given as goal

-- the reads that are left make it whole
abbrev pub invariant-loop-place : goal.invariant-loop-place
invariant-loop-place g l = SeeksLead g.L.ProbeLine.clocks l.settings l.request l.wanted l.mask
    (l.settings.matches + 1 - l.place) l.fn.line l.line
