-- Laws of packets at the pins of a target: they lead to pins that characters reach too, so that a server of any
-- protocol can serve them.
use Rattle.std.proofs.Common.{ℕ, List, sym, subst}
use Rattle.swd_port.specs.Bus.{Bus}
use Rattle.swd_bitbang.specs.Watching.{PinsReach}
use Rattle.swd_bitbang.proofs.SessionLemmas.{pins_reach_further, pins_reach_themselves}
use Rattle.swd_dap_probe.specs.declared.processor.Processor.{Processor}
use Rattle.swd_dap_probe.specs.Moves.{IsDapMotion}
use Rattle.swd_dap_probe.specs.Packets.{processor_line}
use Rattle.swd_dap_probe.proofs.MotionLemmas.{takes_move}
use Rattle.swd_packets.specs.declared.line.PinsLine.{PinsLine}
use Rattle.swd_packets.specs.declared.packets.SimulatedProbe.{SimulatedProbe}
use Rattle.swd_packets.specs.Packets.{PacketsStep, keeps, completes, PinsLineClock, PinsLineResets, packets_pins}

-- the pins of a line are reached, however it is moved
motion : {D A : Type 0} (bus : D → Bus)
    → IsDapMotion {L = PinsLine D A} (PinsLineClock bus) PinsLineResets (λ s t. PinsReach bus s.pins t.pins)
motion bus = record {
  stays = λ s. pins_reach_themselves bus s.pins;
  goes_on = λ s m t a b. pins_reach_further bus s.pins m.pins t.pins a b;
  clocked = λ drive level s t h. h.reached;
  reset = λ level s t e. subst (λ x. PinsReach bus s.pins x.pins) (sym e) (pins_reach_themselves bus s.pins);
}

-- a byte leads to pins that characters reach too
pub packets_reach : {D A : Type 0} (bus : D → Bus) (byte : ℕ) (answers : List ℕ) (s t : SimulatedProbe D A)
    → PacketsStep bus byte answers s t → PinsReach bus (packets_pins s) (packets_pins t)
packets_reach {D} {A} bus byte answers s t (keeps few frame e is) =
    subst (λ (p : Processor (PinsLine D A)). PinsReach bus (packets_pins s) (processor_line {L = PinsLine D A} p).pins)
    (sym e)
    (pins_reach_themselves bus (packets_pins s))
packets_reach {D} {A} bus byte answers s t (completes whole told performed is) =
    takes_move (PinsLineClock bus) PinsLineResets (λ x y. PinsReach bus x.pins y.pins) (motion bus) _ told s.probe
    t.probe performed.takes
