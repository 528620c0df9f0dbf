use Rattle.std.proofs.Math.Logic.{∥∥₁_map}
use Rattle.swd_remote.proofs.KeptLemmas.{line_calls_one_more}
use Rattle.swd_remote.proofs.kept.RemoteTransportTransport.step.Goals as goal

pub returns : goal.returns
returns g c = record {
  told = λ made told. ∥∥₁_map told (λ kept. (
    line_calls_one_more g.R.Read.remaining g.W.Write.contents g.B.InitialStreams.way g.B.InitialStreams.sent
        g.B.InitialStreams.left made c.args.cue c.perform-told.result c.args.self.now.transport c.perform-told.new.self
        c.perform-told.ensures kept.0,
    c.take.ensures made kept.1,
  ));
}
