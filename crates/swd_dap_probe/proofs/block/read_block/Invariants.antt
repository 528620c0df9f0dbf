use Rattle.std.proofs.Common.{ℕ, ◌≤◌, ◌+◌, ◌-◌, ◌*◌, ◌++◌, length}
use Rattle.swd_dap_probe.specs.Transfers.{dap_block_reads, dap_post, dap_run}
use Rattle.swd_dap_probe.proofs.StepLemmas.{StepsLead}
use Rattle.swd_dap_probe.proofs.block.read_block.Given as goal

-- there is room for the words that are left, and the reads that are left make the block whole
abbrev pub invariant-loop-place : goal.invariant-loop-place
invariant-loop-place g l = record {
  room : length l.words.items ≤ length l.fn.words.items + 4 * l.place;
  makes : (mask : ℕ) → StepsLead g.L.ProbeLine.clocks l.settings (dap_post l.request ++ dap_block_reads l.request
      l.count)
      (dap_run 0 l.fn.words.items mask) (dap_block_reads l.request (l.count - l.place))
      (dap_run l.place l.words.items mask) l.fn.line l.line;
}
