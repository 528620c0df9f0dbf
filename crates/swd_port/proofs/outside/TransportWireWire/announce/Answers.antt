use Rattle.std.proofs.Math.Logic.{∥∥₁_map}
use Rattle.swd_port.proofs.outside.TransportWireWire.announce.Goals as goal

pub invariant_of-self : goal.invariant_of-self
invariant_of-self g c = record {
  tracked = c.args.self.now.tracked;
  range = c.args.self.now.range;
  went = λ ties. ∥∥₁_map (c.args.self.now.went ties)
      (λ h. record { made = h.made; told = c.announce.ensures _ h.told; of = h.of });
}
