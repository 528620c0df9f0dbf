use Rattle.std.proofs.Common.{◌≡◌, ◌+◌, ◌≤◌, List, Bool, ◌++◌}
use Rattle.arrayvec.specs.ArrayVec.{array_vec_len}
use Rattle.swd_trace.specs.Held.{decoder_rest, decoder_fed, decoder_places}
use Rattle.swd_trace.proofs.decoder.Decoder.drain.Given as goal

abbrev pub invariant-loop-item : goal.invariant-loop-item
invariant-loop-item l = record {
  law : (more : List Bool) → l.items.items ++ decoder_rest l.self more ≡ l.fn.items.items
      ++ decoder_rest l.fn.self more;
  room : array_vec_len l.items + decoder_places l.self ≤ array_vec_len l.fn.items + decoder_places l.fn.self;
  fed : decoder_fed l.self ≡ decoder_fed l.fn.self;
}

abbrev pub decreases-loop-item : goal.decreases-loop-item
decreases-loop-item l = decoder_places l.self
