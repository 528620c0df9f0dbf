use Rattle.std.proofs.Common.{◌++◌, sym, ap, ◌∙◌, append_assoc}
use Rattle.swd_resync.specs.AsItems.{resync_part_items}
use Rattle.swd_observer.specs.Traces.{trace_observer_after}
use Rattle.swd_capture.specs.Accesses.{observer_text_of_items}
use Rattle.swd_capture.specs.Gaps.{capture_held_items, capture_items_with}
use Rattle.swd_capture.proofs.AccessLemmas.{observer_text_joins, observer_text_after_join}
use Rattle.swd_capture.proofs.watching.watch_due.Goals as goal

pub returns-in-Some-clause-observer : goal.returns-in-Some-clause-observer
returns-in-Some-clause-observer g c =
    let old = c.args.observer.now in
    let held = capture_held_items c.args.due.now.held c.args.due.now.idle in
    let items = resync_part_items c.in-Some.part in
    c.watch_now.ensures.observer ∙ ap (trace_observer_after items) c.watch_held.ensures.observer
    ∙ sym (observer_text_after_join held items old)
    ∙ ap (λ p. trace_observer_after (capture_items_with held p) old) (sym c.in-Some.is)

pub returns-in-Some-clause-bytes : goal.returns-in-Some-clause-bytes
returns-in-Some-clause-bytes g c =
    let old = c.args.observer.now in
    let held = capture_held_items c.args.due.now.held c.args.due.now.idle in
    let items = resync_part_items c.in-Some.part in
    let first = observer_text_of_items held old in
    let second = observer_text_of_items items (trace_observer_after held old) in
    c.watch_now.ensures.bytes
    ∙ ap (λ o. c.watch_held.new.text.bytes ++ observer_text_of_items items o) c.watch_held.ensures.observer
    ∙ ap (λ x. x ++ second) c.watch_held.ensures.bytes ∙ append_assoc c.args.text.now.bytes first second
    ∙ ap (λ x. c.args.text.now.bytes ++ x) (sym (observer_text_joins held items old)
    ∙ ap (λ p. observer_text_of_items (capture_items_with held p) old) (sym c.in-Some.is))
