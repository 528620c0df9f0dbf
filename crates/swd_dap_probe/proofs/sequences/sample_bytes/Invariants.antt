use Rattle.std.proofs.Common.{◌≤◌, ◌+◌, length}
use Rattle.swd_dap_probe.specs.Shapes.{dap_bytes_for}
use Rattle.swd_dap_probe.proofs.SequenceLemmas.{AllBytesLead}
use Rattle.swd_dap_probe.proofs.sequences.sample_bytes.Given as goal

-- the levels that are left make it whole, and there is room for their bytes
abbrev pub invariant-loop-left : goal.invariant-loop-left
invariant-loop-left g l = record {
  few : l.left ≤ 64;
  room : length l.reply.items + dap_bytes_for l.left ≤ 512;
  leads : AllBytesLead g.L.ProbeLine.clocks l.count l.fn.reply.items l.left l.reply.items l.fn.line l.line;
}

abbrev pub decreases-loop-left : goal.decreases-loop-left
decreases-loop-left g l = l.left
