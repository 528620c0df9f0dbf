use Rattle.std.proofs.Common.{◌≡◌, ◌++◌, ◌-◌, ◌+◌, length}
use Rattle.swd_dap.specs.Sequences.{dap_drive_request, dap_bytes_of}
use Rattle.swd_dap.proofs.requests.drive_request.Given as goal

abbrev pub invariant-loop : goal.invariant-loop
invariant-loop l = record {
  bytes : l.packet.items ++ dap_bytes_of (l.end - l.counter) l.rest ≡ dap_drive_request l.bits;
  count : length l.packet.items ≡ 2 + l.counter;
}
