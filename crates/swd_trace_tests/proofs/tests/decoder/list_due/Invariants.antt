use Rattle.swd_trace.specs.Held.{decoder_places}
use Rattle.swd_trace_tests.proofs.tests.decoder.list_due.Given as goal

abbrev pub decreases-loop-item : goal.decreases-loop-item
decreases-loop-item l = decoder_places l.decoder
