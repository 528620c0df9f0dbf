use Rattle.std.proofs.Common.{Bool, List, [], ◌++◌, replicate, true, false, append-nil, subst}
use Rattle.swd_dap.specs.Leading.{DapQueues, dap_switch_and, dap_lead_bits}
use Rattle.swd_dap.proofs.LeadLemmas.{dap_queues_more}
use Rattle.swd_dap.proofs.sequences.drive_lead.Goals as goal

pub returns : goal.returns
returns g c =
    let s = c.args.packets.now in
    let ones = replicate c.args.ones true in
    let again = dap_switch_and c.args.again in
    let zeros = replicate c.args.zeros false in
    let all = dap_lead_bits c.args.ones c.args.again c.args.zeros in
    let first = subst (λ (l : List Bool). DapQueues g.P.Packets.exchanged ones s l c.hold.new.packets
    c.hold.new.bits.items) c.new-bits.ensures c.in_ok-hold.ensures in
    let second = dap_queues_more g.P.Packets.exchanged ones again s c.hold.new.packets c.drive_switch.new.packets []
    c.hold.new.bits.items c.drive_switch.new.bits.items first c.in_ok-drive_switch.ensures in
    let third = dap_queues_more g.P.Packets.exchanged (ones ++ again) zeros s c.drive_switch.new.packets
    c.hold-2.new.packets [] c.drive_switch.new.bits.items c.hold-2.new.bits.items second c.in_ok-hold-2.ensures in
    let last = dap_queues_more g.P.Packets.exchanged all [] s c.hold-2.new.packets c.flush.new.packets []
    c.hold-2.new.bits.items c.flush.new.bits.items third c.in_ok-flush.ensures.drives in
    subst (λ (l : List Bool). DapQueues g.P.Packets.exchanged l s [] c.flush.new.packets []) (append-nil all)
    (subst (λ (l : List Bool). DapQueues g.P.Packets.exchanged (all ++ []) s [] c.flush.new.packets l)
    c.in_ok-flush.ensures.none last)
