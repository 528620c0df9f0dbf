use Rattle.std.proofs.Common.{◌≡◌, ◌+◌, ◌≤◌, [], ◌++◌}
use Rattle.arrayvec.specs.ArrayVec.{array_vec_len}
use Rattle.swd_trace.specs.Held.{decoder_rest, decoder_places}
use Rattle.swd_trace.proofs.decoder.Decoder.finish.Given as goal

abbrev pub invariant-loop-item : goal.invariant-loop-item
invariant-loop-item l = record {
  law : l.items.items ++ decoder_rest l.decoder [] ≡ decoder_rest l.fn.self [];
  room : array_vec_len l.items + decoder_places l.decoder ≤ 51;
}

abbrev pub decreases-loop-item : goal.decreases-loop-item
decreases-loop-item l = decoder_places l.decoder
