use Rattle.std.proofs.Math.Logic.{∥∥₁_map}
use Rattle.swd_port.proofs.outside.TransportWire.into_transport.Goals as goal

pub returns : goal.returns
returns g c = λ ties.
    ∥∥₁_map (c.args.self.went ties)
    (λ h. record { made = h.made; fetched = c.args.self.fetched; told = h.told; of = h.of })
