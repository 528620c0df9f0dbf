use Rattle.std.proofs.Common.{[], ◌∷◌, List, Bool, false, take, get_or, sym, subst}
use Rattle.swd_dap.specs.Leading.{DapQueues}
use Rattle.swd_dap.proofs.TransferLemmas.{dap_beginning_one_more}
use Rattle.swd_dap.proofs.LeadLemmas.{dap_queues_more}
use Rattle.swd_dap.proofs.sequences.drive_all.Goals as goal

pub loop-bit-preserved : goal.loop-bit-preserved
loop-bit-preserved g c =
    let more = c.args.more.now in
    let i = c.loop-bit.bit-index in
    subst (λ (l : List Bool). DapQueues g.P.Packets.exchanged l c.args.packets.now c.args.bits.now.items
    c.drive.new.packets c.drive.new.bits.items) (sym (dap_beginning_one_more more i false c.loop-bit-test.true))
    (dap_queues_more g.P.Packets.exchanged (take i more) (get_or more i false ∷ [])
    c.args.packets.now c.loop-bit.packets c.drive.new.packets c.args.bits.now.items c.loop-bit.bits.items
    c.drive.new.bits.items c.loop-bit.invariant c.in_ok-drive.ensures)
