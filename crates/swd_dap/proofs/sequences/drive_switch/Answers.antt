use Rattle.std.proofs.Common.{ℕ, Option, replicate, true, sym, subst}
use Rattle.swd_dap.specs.Leading.{DapQueues, dap_switch_and, dap_switch}
use Rattle.swd_dap.proofs.LeadLemmas.{dap_queues_more}
use Rattle.swd_dap.proofs.sequences.drive_switch.Goals as goal

pub returns : goal.returns
returns g c =
    subst (λ (o : Option ℕ). DapQueues g.P.Packets.exchanged (dap_switch_and o) c.args.packets.now c.args.bits.now.items
    c.hold.new.packets c.hold.new.bits.items) (sym c.in-Some.is)
    (dap_queues_more g.P.Packets.exchanged dap_switch (replicate c.in-Some.ones true)
    c.args.packets.now c.drive_all.new.packets c.hold.new.packets c.args.bits.now.items c.drive_all.new.bits.items
    c.hold.new.bits.items c.in_ok-drive_all.ensures c.in_ok-hold.ensures)
