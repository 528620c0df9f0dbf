use Rattle.std.proofs.Common.{ℕ, List, ◌-◌}
use Rattle.swd_dap_probe.specs.Transfers.{dap_block_writes, dap_run}
use Rattle.swd_dap_probe.proofs.StepLemmas.{StepsLead}
use Rattle.swd_dap_probe.proofs.block.write_block.Given as goal

-- the writes that are left make the block whole
abbrev pub invariant-loop-place : goal.invariant-loop-place
invariant-loop-place g l = (words : List ℕ) (mask : ℕ) → StepsLead g.L.ProbeLine.clocks l.settings
    (dap_block_writes l.request l.bytes 0 l.count) (dap_run 0 words mask)
    (dap_block_writes l.request l.bytes l.place (l.count - l.place)) (dap_run l.place words mask) l.fn.line l.line
