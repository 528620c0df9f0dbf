use Rattle.std.proofs.Common.{◌≡◌, ◌≤◌, ◌+◌, length, sym, ap, ◌∙◌, subst}
use Rattle.std.specs.Prelude.{slice_index}
use Rattle.swd_dap_probe.specs.Commands.{dap_command_of}
use Rattle.swd_dap_probe.specs.Shapes.{dap_shape_by}
use Rattle.swd_dap_probe.specs.Packets.{DapAppends, ProbeDoes}
use Rattle.swd_dap_probe.proofs.packet.command_at.Goals as goal

pub command-requires : goal.command-requires
command-requires g c =
    let bytes = c.args.bytes.now in
    let e : c.of.result ≡ dap_command_of (slice_index bytes 0) = c.of.ensures ∙ ap dap_command_of c.byte_at.ensures in
    record {
      whole = subst (λ k. (dap_shape_by k bytes).request ≤ length bytes) (sym e) c.requires.whole;
      room = subst (λ k. length c.args.reply.now.items + (dap_shape_by k bytes).reply ≤ 512) (sym e) c.requires.room;
    }

pub returns : goal.returns
returns g c =
    let bytes = c.args.bytes.now in
    let e : c.of.result ≡ dap_command_of (slice_index bytes 0) = c.of.ensures ∙ ap dap_command_of c.byte_at.ensures in
    subst (λ k. DapAppends (λ told. ProbeDoes g.L.ProbeLine.clocks g.L.ProbeLine.resets k bytes told c.args.probe.now
    c.command.new.probe) (dap_shape_by k bytes).reply c.args.reply.now.items c.command.new.reply.items) e
    c.command.ensures
