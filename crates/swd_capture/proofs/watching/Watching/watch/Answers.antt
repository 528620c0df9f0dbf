use Rattle.std.proofs.Common.{◌++◌, ap, ◌∙◌}
use Rattle.swd_capture.specs.Gaps.{capture_due_of}
use Rattle.swd_capture.proofs.HeldLemmas.{capture_due_alike}
use Rattle.swd_capture.proofs.watching.Watching.watch.Goals as goal

pub returns-clause-shows : goal.returns-clause-shows
returns-clause-shows g c = λ run h.
    let old = c.args.self.now.observer in
    let same = capture_due_alike (capture_due_of run c.args.part.now) c.take-due.result old
    (c.take-due.ensures.due run h) in
    record {
      keeps = c.take-due.ensures.waits run h;
      observer = c.watch_due.ensures.observer ∙ same.leads;
      bytes = c.watch_due.ensures.bytes ∙ ap (λ x. c.args.text.now.bytes ++ x) same.shows;
    }
