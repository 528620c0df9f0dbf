use Rattle.std.proofs.Common.{◌≡◌, ◌-◌, ◌∙◌, ap, sym, subst, drop, take, length, length-drop}
use Rattle.std.proofs.Math.Seq.{take-length}
use Rattle.swd_dap_probe.specs.Packets.{DapTakes}
use Rattle.swd_packets.specs.Packets.{PinsLineClock, PinsLineResets}
use Rattle.swd_packets.proofs.packets.SimulatedProbe.perform.Goals as goal

pub returns-clause-performs : goal.returns-clause-performs
returns-clause-performs g c =
    let told = take c.take-length.result c.take-length.new.reply in
    let xs = c.as_slice.result.now in
    let rest : take (length xs - 2) (drop 2 xs) ≡ drop 2 c.args.self.now.frame.items
    = ap (λ m. take m (drop 2 xs)) (sym (length-drop 2 xs)) ∙ take-length (drop 2 xs)
    ∙ ap (λ x. drop 2 x) c.as_slice.ensures.value in (
      told,
      record {
        takes = subst (λ x. DapTakes (PinsLineClock g.D.Device.bus) PinsLineResets x told c.args.self.now.probe
            c.take-length.new.self) rest c.take-length.ensures.takes;
        next = c.clear.ensures;
      },
      c.put_reply.ensures.sends,
    )
