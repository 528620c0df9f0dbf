use Rattle.std.proofs.Common.{sym, subst}
use Rattle.std.proofs.Math.Logic.{∥∥₁_map}
use Rattle.swd_remote.specs.Openings.{OpeningShows}
use Rattle.swd_remote.proofs.kept.RemoteTransport.hang_up.Goals as goal

pub returns : goal.returns
returns g c = λ calls told. ∥∥₁_map told (λ kept. (
  c.hang_up.ensures.hangs g.B.InitialStreams.way g.B.InitialStreams.sent g.B.InitialStreams.left calls kept.0,
  subst (OpeningShows calls) (sym c.hang_up.ensures.opening) kept.1,
))
