use Rattle.std.proofs.Common.{length}
use Rattle.swd_trace.specs.Held.{IsDecoderSettled}
use Rattle.swd_trace_tests.proofs.tests.decoder.take_piece.Given as goal

abbrev pub invariant-loop-decoder : goal.invariant-loop-decoder
invariant-loop-decoder l = IsDecoderSettled l.decoder

abbrev pub decreases-loop-decoder : goal.decreases-loop-decoder
decreases-loop-decoder l = length l.rest
