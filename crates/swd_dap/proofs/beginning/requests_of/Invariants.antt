use Rattle.std.proofs.Common.{◌≡◌, ◌≤◌, ◌++◌, drop, false, length}
use Rattle.swd_dap.specs.Transfers.{dap_requests_of}
use Rattle.swd_dap.proofs.beginning.requests_of.Given as goal

abbrev pub invariant-loop-next : goal.invariant-loop-next
invariant-loop-next l = record {
  requests : l.requests.items ++ dap_requests_of l.posts (drop l.next-index l.transactions)
      ≡ dap_requests_of false l.transactions;
  few : length l.requests.items ≤ l.next-index;
}
