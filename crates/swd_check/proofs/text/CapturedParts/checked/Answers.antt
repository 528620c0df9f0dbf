use Rattle.std.proofs.Common.{◌++◌, subst}
use Rattle.swd_capture.specs.Gaps.{capture_waiting}
use Rattle.swd_check.specs.Checks.{IsCheckedCount, check_capture_items}
use Rattle.swd_check.proofs.CaptureLemmas.{check_held_last}
use Rattle.swd_check.proofs.text.CapturedParts.checked.Goals as goal

pub returns : goal.returns
returns g c = λ before parts h. (
  subst (λ n. IsCheckedCount n c.checked.result) h.count c.checked.ensures.count,
  λ few i seen k. c.checked.ensures.says i (seen ++ check_capture_items parts)
      (check_held_last before c.watch_due.new.check parts c.args.self c.last-due.result
      (c.last-due.ensures (capture_waiting parts) h.held) c.watch_due.ensures h few i seen k),
)
