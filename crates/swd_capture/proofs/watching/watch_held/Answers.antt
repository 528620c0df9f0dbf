use Rattle.std.proofs.Common.{◌≡◌, ◌++◌, sym, ap, ◌∙◌}
use Rattle.std.proofs.lemmas.List.{append-nil}
use Rattle.swd_trace.specs.Held.{idle_items}
use Rattle.swd_resync.specs.AsItems.{resync_part_items}
use Rattle.swd_observer.specs.Traces.{trace_observer_after}
use Rattle.swd_capture.specs.Accesses.{observer_text_of_items}
use Rattle.swd_capture.specs.Gaps.{capture_held_items}
use Rattle.swd_capture.proofs.AccessLemmas.{observer_text_joins, observer_text_after_join, observer_text_idle_silent}
use Rattle.swd_capture.proofs.watching.watch_held.Goals as goal

pub returns-in-Some-clause-observer : goal.returns-in-Some-clause-observer
returns-in-Some-clause-observer g c =
    let old = c.args.observer.now in
    let idle = c.args.idle in
    c.watch_idle.ensures ∙ ap (trace_observer_after (idle_items idle)) c.watch_now.ensures.observer
    ∙ sym (observer_text_after_join (resync_part_items c.in-Some.part) (idle_items idle) old)
    ∙ ap (λ p. trace_observer_after (capture_held_items p idle) old) (sym c.in-Some.is)

pub returns-in-Some-clause-bytes : goal.returns-in-Some-clause-bytes
returns-in-Some-clause-bytes g c =
    let old = c.args.observer.now in
    let idle = c.args.idle in
    let items = resync_part_items c.in-Some.part in
    let shown = observer_text_of_items items old in
    let whole : observer_text_of_items (items ++ idle_items idle) old ≡ shown =
    observer_text_joins items (idle_items idle) old
    ∙ ap (λ x. shown ++ x) (observer_text_idle_silent idle (trace_observer_after items old)) ∙ append-nil shown in
    c.watch_now.ensures.bytes
    ∙ ap (λ x. c.args.text.now.bytes ++ x) (sym whole
    ∙ ap (λ p. observer_text_of_items (capture_held_items p idle) old) (sym c.in-Some.is))
