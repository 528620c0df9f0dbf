use Rattle.swd_trace.specs.Held.{decoder_places}
use Rattle.swd_text.specs.Listers.{ListerPuts}
use Rattle.swd_text.proofs.lister.Lister.put_txs.Given as goal

abbrev pub invariant-loop-spelled : goal.invariant-loop-spelled
invariant-loop-spelled g l = record {
  puts : ListerPuts g.W.Write.contents l.fn.self.decoder l.self.decoder l.fn.block l.block;
}

abbrev pub decreases-loop-spelled : goal.decreases-loop-spelled
decreases-loop-spelled g l = decoder_places l.self.decoder
