use Rattle.std.proofs.Common.{refl}
use Rattle.swd_port.specs.Outside.{is_wire_gone, wire_calls}
use Rattle.swd_remote.proofs.WholeLemmas.{remote_watched_went_over}
use Rattle.swd_remote.proofs.line_job.over_begun.Goals as goal

pub returns : goal.returns
returns g c =
    let wire = c.perform-answer.result.1 in (
      wire_calls wire,
      c.perform-answer.ensures,
      remote_watched_went_over g.K.CallSink.got g.B.InitialStreams.way g.R.Read.remaining g.W.Write.contents
          g.B.InitialStreams.sent g.B.InitialStreams.left (wire_calls wire) (is_wire_gone wire)
          c.into_transport-transport.result c.hang_up.result
          (c.into_transport-transport.ensures refl) c.hang_up.ensures,
    )
