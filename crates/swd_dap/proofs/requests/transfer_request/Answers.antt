use Rattle.swd_dap.proofs.TransferLemmas.{dap_room_at}
use Rattle.swd_dap.proofs.requests.transfer_request.Goals as goal

pub put_transfer-requires : goal.put_transfer-requires
put_transfer-requires c =
    dap_room_at c.loop-transfer.packet.items c.args.transfers.now c.loop-transfer.transfer-index _ _
    c.loop-transfer.invariant c.loop-transfer-test.true c.requires.fits
