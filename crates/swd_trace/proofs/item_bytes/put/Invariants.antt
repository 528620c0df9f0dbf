use Rattle.std.proofs.Common.{◌≡◌, ◌++◌, take}
use Rattle.swd_trace.specs.ItemBytes.{item_bytes_left}
use Rattle.swd_trace.proofs.item_bytes.put.Given as goal

abbrev pub invariant-loop-place : goal.invariant-loop-place
invariant-loop-place l = record {
  place : l.filled ≡ l.place-index;
  bytes : item_bytes_left l.fn.bytes ≡ take l.filled l.piece ++ item_bytes_left l.left;
}
