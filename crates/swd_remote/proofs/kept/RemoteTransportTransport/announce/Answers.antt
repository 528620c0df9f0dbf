use Rattle.std.proofs.Math.Logic.{∥∥₁_map}
use Rattle.swd_remote.proofs.kept.RemoteTransportTransport.announce.Goals as goal

pub returns : goal.returns
returns g c = λ made told. ∥∥₁_map told (λ kept. (
  c.announce.ensures g.B.InitialStreams.way g.B.InitialStreams.sent g.B.InitialStreams.left made kept.0,
  kept.1,
))
