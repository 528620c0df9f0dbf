use Rattle.std.proofs.Common.{◌-◌, ◌≤◌, length}
use Rattle.swd_resync.specs.Decoding.{resync_steps_left, ResyncSettled}
use Rattle.swd_capture_tests.proofs.tests.parts.lines_by_tx.Given as goal

abbrev pub decreases-loop-part : goal.decreases-loop-part
decreases-loop-part l = resync_steps_left l.decoder

abbrev pub invariant-loop-index : goal.invariant-loop-index
invariant-loop-index l = record { settled : ResyncSettled l.decoder; within : l.index ≤ length l.bits }

abbrev pub decreases-loop-index : goal.decreases-loop-index
decreases-loop-index l = length l.bits - l.index

abbrev pub decreases-loop-end : goal.decreases-loop-end
decreases-loop-end l = resync_steps_left l.decoder
