use Rattle.std.proofs.Common.{◌≡◌, ◌+◌, ◌≤◌, drop}
use Rattle.swd_dap.specs.Doubts.{dap_drws}
use Rattle.swd_dap.proofs.doubt.drws.Given as goal

abbrev pub invariant-loop-request : goal.invariant-loop-request
invariant-loop-request l = record {
  drws : l.count + dap_drws (drop l.request-index l.requests) ≡ dap_drws l.requests;
  bound : l.count ≤ l.request-index;
}
