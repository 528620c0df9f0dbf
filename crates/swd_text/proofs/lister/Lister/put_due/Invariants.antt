use Rattle.swd_trace.specs.Held.{decoder_places}
use Rattle.swd_text.specs.Listers.{ListerPuts}
use Rattle.swd_text.proofs.lister.Lister.put_due.Given as goal

abbrev pub invariant-loop-item : goal.invariant-loop-item
invariant-loop-item g l = record {
  puts : ListerPuts g.W.Write.contents l.fn.self.decoder l.self.decoder l.fn.block l.block;
}

abbrev pub decreases-loop-item : goal.decreases-loop-item
decreases-loop-item g l = decoder_places l.self.decoder
