use Rattle.std.proofs.Common.{◌++◌, ap, ◌∙◌}
use Rattle.swd_observer.specs.Observing.{observed_last_accesses}
use Rattle.swd_capture.specs.Accesses.{observer_text_reported}
use Rattle.swd_capture.proofs.watching.Watching.push_last.Goals as goal

pub returns-clause-bytes : goal.returns-clause-bytes
returns-clause-bytes g c = λ run h.
    c.push_tells.ensures.bytes ∙ ap (λ t. c.args.text.now.bytes ++ observer_text_reported t)
    (c.last.ensures ∙ ap (λ o. observed_last_accesses o.observer) (c.flush.ensures.shows run h).observer)
