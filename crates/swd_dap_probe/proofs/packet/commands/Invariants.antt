use Rattle.std.proofs.Common.{◌-◌}
use Rattle.swd_dap_probe.specs.Shapes.{dap_command_shape}
use Rattle.swd_dap_probe.specs.Packets.{DapCommandsGo}
use Rattle.swd_dap_probe.proofs.ItemLemmas.{ItemsLead}
use Rattle.swd_dap_probe.proofs.packet.commands.Given as goal

-- the commands that are left make it whole
abbrev pub invariant-loop-place : goal.invariant-loop-place
invariant-loop-place g l = ItemsLead (DapCommandsGo g.L.ProbeLine.clocks g.L.ProbeLine.resets) dap_command_shape l.count
    l.bytes l.fn.reply.items l.fn.probe (l.count - l.place) l.rest l.reply.items l.probe
