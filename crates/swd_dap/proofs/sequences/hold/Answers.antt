use Rattle.std.proofs.Common.{[], ◌∷◌, List, Bool, replicate, sym, subst}
use Rattle.swd_dap.specs.Leading.{DapQueues}
use Rattle.swd_dap.proofs.LeadLemmas.{dap_queues_more, dap_replicate_one_more}
use Rattle.swd_dap.proofs.sequences.hold.Goals as goal

pub loop-preserved : goal.loop-preserved
loop-preserved g c =
    subst (λ (l : List Bool). DapQueues g.P.Packets.exchanged l c.args.packets.now c.args.bits.now.items
    c.drive.new.packets c.drive.new.bits.items) (sym (dap_replicate_one_more c.loop.counter c.args.level))
    (dap_queues_more g.P.Packets.exchanged (replicate c.loop.counter c.args.level) (c.args.level ∷ [])
    c.args.packets.now c.loop.packets c.drive.new.packets c.args.bits.now.items c.loop.bits.items
    c.drive.new.bits.items c.loop.invariant c.in_ok-drive.ensures)
