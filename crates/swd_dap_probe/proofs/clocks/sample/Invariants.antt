use Rattle.std.proofs.Common.{◌<◌, ◌^◌}
use Rattle.swd_dap_probe.proofs.ClockLemmas.{AllLevelsLead}
use Rattle.swd_dap_probe.proofs.clocks.sample.Given as goal

-- the levels that are left make it whole
abbrev pub invariant-loop-place : goal.invariant-loop-place
invariant-loop-place g l = record {
  bound : l.levels < 2 ^ l.place;
  leads : AllLevelsLead g.L.ProbeLine.clocks l.count l.place l.levels l.fn.line l.line;
}
