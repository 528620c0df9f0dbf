use Rattle.std.proofs.Common.{◌≡◌, ◌++◌, drop}
use Rattle.swd_dap.specs.Transfers.{dap_transfer_request, dap_all_bytes}
use Rattle.swd_dap.proofs.requests.transfer_request.Given as goal

abbrev pub invariant-loop-transfer : goal.invariant-loop-transfer
invariant-loop-transfer l =
    l.packet.items ++ dap_all_bytes (drop l.transfer-index l.transfers) ≡ dap_transfer_request l.transfers
