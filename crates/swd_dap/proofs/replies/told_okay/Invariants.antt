use Rattle.std.proofs.Common.{◌≡◌, ◌++◌, drop, false, length}
use Rattle.swd_dap.specs.Transfers.{dap_told_of, DapHasWords}
use Rattle.swd_dap.proofs.replies.told_okay.Given as goal

abbrev pub invariant-loop-transfer : goal.invariant-loop-transfer
invariant-loop-transfer l = record {
  told : l.told.items ++ dap_told_of l.posts (drop l.transfer-index l.done) l.rest ≡ dap_told_of false l.done l.words;
  count : length l.told.items ≡ l.transfer-index;
  long : DapHasWords l.posts (drop l.transfer-index l.done) l.rest → DapHasWords false l.done l.words;
}
