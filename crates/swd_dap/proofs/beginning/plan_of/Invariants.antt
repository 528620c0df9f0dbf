use Rattle.std.proofs.Common.{◌≡◌, map, take}
use Rattle.swd_dap.specs.Transfers.{dap_transfer_of}
use Rattle.swd_dap.proofs.beginning.plan_of.Given as goal

abbrev pub invariant-loop-next : goal.invariant-loop-next
invariant-loop-next l = l.plan.items ≡ map dap_transfer_of (take l.next-index l.next-items)
