use Rattle.std.proofs.Common.{◌∙◌, map, ap}
use Rattle.swd_dap.specs.Transfers.{dap_transfer_of}
use Rattle.swd_dap.proofs.TransferLemmas.{dap_all_coming}
use Rattle.swd_dap.proofs.beginning.plan_of.Goals as goal

pub returns : goal.returns
returns c =
    c.loop-next.invariant
    ∙ ap (map dap_transfer_of)
    (dap_all_coming c.args.coming.now c.min.result c.loop-next.next-index c.min.ensures c.loop-next-test.false)
