use Rattle.std.proofs.Common.{◌++◌, ap, refl, ◌∙◌}
use Rattle.std.specs.Prelude.{None}
use Rattle.swd_capture.specs.Gaps.{capture_due_of_run}
use Rattle.swd_capture.proofs.HeldLemmas.{capture_due_alike}
use Rattle.swd_capture.proofs.watching.Watching.flush.Goals as goal

pub returns-clause-shows : goal.returns-clause-shows
returns-clause-shows g c = λ run h.
    let old = c.args.self.now.observer in
    let same = capture_due_alike (capture_due_of_run run None) (record c.last-due.result { part = None }) old
    (record { held = (c.last-due.ensures run h).held; idle = (c.last-due.ensures run h).idle; part = refl }) in
    record {
      keeps = c.new-self.ensures;
      observer = c.watch_held.ensures.observer ∙ same.leads;
      bytes = c.watch_held.ensures.bytes ∙ ap (λ x. c.args.text.now.bytes ++ x) same.shows;
    }
