use Rattle.std.proofs.Common.{◌≡◌, ◌≤◌, List, Bool}
use Rattle.swd_resync.specs.Sights.{SightMore}
use Rattle.swd_resync.specs.Decoding.{resync_rest, resync_steps_left, resync_fed}
use Rattle.swd_resync.proofs.decoder.CaptureDecoder.next.Given as goal

abbrev pub invariant-loop-step : goal.invariant-loop-step
invariant-loop-step l = record {
  law : (more : List Bool) → SightMore l.ended more → resync_rest l.initial.self more ≡ resync_rest l.self more;
  left : resync_steps_left l.self ≤ resync_steps_left l.initial.self;
  fed : resync_fed l.self ≡ resync_fed l.initial.self;
}

abbrev pub decreases-loop-step : goal.decreases-loop-step
decreases-loop-step l = resync_steps_left l.self
