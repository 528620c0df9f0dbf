use Rattle.swd_capture.specs.Gaps.{capture_waiting}
use Rattle.swd_check.proofs.CaptureLemmas.{check_held_more}
use Rattle.swd_check.proofs.text.CapturedParts.take.Goals as goal

pub returns : goal.returns
returns g c = λ before seen h.
    check_held_more before seen c.args.part.now c.args.self.now _ c.take-due.result c.saturating_add-self.ensures
    (c.take-due.ensures.waits (capture_waiting seen) h.held) (c.take-due.ensures.due (capture_waiting seen) h.held)
    c.watch_due.ensures h
