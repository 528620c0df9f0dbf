use Rattle.std.proofs.Common.{◌≡◌, ◌+◌, ◌-◌, ◌∙◌, drop, refl, sym, ap, subst}
use Rattle.swd_dap_probe.specs.Shapes.{dap_command_shape}
use Rattle.swd_dap_probe.specs.Packets.{DapCommandsGo}
use Rattle.swd_dap_probe.proofs.ItemLemmas.{ItemsLead, items_first, items_left, items_next, items_last}
use Rattle.swd_dap_probe.proofs.packet.commands.Goals as goal

pub loop-place-init : goal.loop-place-init
loop-place-init g c = items_first _ dap_command_shape c.args.count c.args.bytes.now c.args.reply.now.items
    c.args.probe.now c.requires.whole

pub loop-place-preserved : goal.loop-place-preserved
loop-place-preserved g c =
    let l = c.loop-place in
    let rest = l.rest.now in
    let n = c.args.count - (l.place + 1) in
    let done = c.command_at.ensures in
    let e : c.skip-rest.result.now ≡ drop (dap_command_shape rest).request rest
    = c.skip-rest.ensures ∙ ap (λ q. drop q.request rest) c.command_shape.ensures.shape in
    let Go = DapCommandsGo g.L.ProbeLine.clocks g.L.ProbeLine.resets in
    subst (λ r. ItemsLead Go dap_command_shape c.args.count c.args.bytes.now c.args.reply.now.items c.args.probe.now n r
    c.command_at.new.reply.items c.command_at.new.probe) (sym e)
    (items_next Go dap_command_shape c.args.count c.args.bytes.now c.args.reply.now.items c.args.probe.now n rest
    l.reply.items l.probe done.told c.command_at.new.reply.items c.command_at.new.probe
    (λ told t h. (c.command_at.new.probe, done.told, told, done.holds, h, refl)) done.is done.short
    (items_left Go dap_command_shape c.args.count c.args.bytes.now c.args.reply.now.items c.args.probe.now l.place rest
    l.reply.items l.probe c.loop-place-test.true l.invariant))

pub returns : goal.returns
returns g c =
    let l = c.loop-place in
    let all = items_last (DapCommandsGo g.L.ProbeLine.clocks g.L.ProbeLine.resets) dap_command_shape c.args.count
    c.args.bytes.now c.args.reply.now.items c.args.probe.now l.place l.rest.now l.reply.items l.probe
    c.loop-place-test.false (refl, refl) l.invariant in
    record { told = all.0; is = all.2; short = all.3; holds = all.1 }
