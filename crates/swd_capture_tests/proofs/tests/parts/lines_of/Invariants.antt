use Rattle.swd_resync.specs.Decoding.{resync_steps_left, ResyncSettled}
use Rattle.swd_capture_tests.proofs.tests.parts.lines_of.Given as goal

abbrev pub decreases-loop-part : goal.decreases-loop-part
decreases-loop-part l = resync_steps_left l.decoder

abbrev pub invariant-loop-bit : goal.invariant-loop-bit
invariant-loop-bit l = ResyncSettled l.decoder

abbrev pub decreases-loop-end : goal.decreases-loop-end
decreases-loop-end l = resync_steps_left l.decoder
