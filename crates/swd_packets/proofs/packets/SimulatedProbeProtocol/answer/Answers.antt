use Rattle.std.proofs.Common.{◌≡◌, ◌++◌, ◌∷◌, ◌∙◌, [], ap, refl, subst, length, drop, arith}
use Rattle.swd_dap_probe.specs.Packets.{DapTakes}
use Rattle.swd_packets.specs.Packets.{PinsLineClock, PinsLineResets, completes, packet_frame, packet_told}
use Rattle.swd_packets.proofs.packets.SimulatedProbeProtocol.answer.Goals as goal

pub returns-then-len-whole-clause-ok : goal.returns-then-len-whole-clause-ok
returns-then-len-whole-clause-ok g c =
    let h = c.perform.ensures.performs in
    let s = c.args.self.now in
    let byte = c.args.byte in
    let frame = s.frame.items ++ byte ∷ [] in
    let whole : c.frame_length-whole.result ≡ packet_frame frame = c.frame_length-whole.ensures.is
    ∙ ap (λ x. packet_frame (x ++ byte ∷ [])) c.as_slice.ensures.value in
    let long : c.len.result ≡ length frame = c.len.ensures.value ∙ ap length c.push.ensures.items in (
      packet_told h.0,
      completes (omega (arith, whole, long, c.if-len-whole.true)) h.0 (record {
        takes = subst (λ x. DapTakes (PinsLineClock g.D.Device.bus) PinsLineResets (drop 2 x) h.0 s.probe
            c.perform.new.self.probe) c.push.ensures.items h.1.takes;
        next = h.1.next;
      }) refl,
      h.2,
    )
