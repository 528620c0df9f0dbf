use Rattle.std.proofs.Common.{◌≡◌, ◌+◌, ◌-◌, ◌^◌, ◌<◌, ◌++◌, ℕ, min, true, false, replicate, sym, ap, ◌∙◌, arith}
use Rattle.std.proofs.lemmas.List.{append-nil}
use Rattle.swd_trace.specs.declared.item.Item.TheVariants.{Junk}
use Rattle.swd_observer.specs.declared.trace.TraceObserver.{TraceObserver}
use Rattle.swd_observer.specs.Observing.{observer_unknown}
use Rattle.swd_observer.specs.Traces.{trace_observer_after}
use Rattle.swd_capture.specs.Accesses.{observer_text_of_items, observer_text_shown}
use Rattle.swd_capture.proofs.AccessLemmas.{observer_text_after_junk, observer_text_after_skip}
use Rattle.swd_capture.proofs.AccessLemmas.{observer_text_among_junk, observer_text_junk_silent}
use Rattle.swd_capture.proofs.AccessLemmas.{observer_text_skip_shows}
use Rattle.swd_capture.proofs.watching.watch_skip.Goals as goal

-- an observer at another place
abbrev at : TraceObserver → ℕ → TraceObserver
at t place = record { observer = t.observer; place = place; in_gap = t.in_gap }

-- an observer that is lost
is_among : (t : TraceObserver) → t.in_gap ≡ true → t.observer ≡ observer_unknown → t ≡ observer_text_among_junk t.place
is_among t gap e =
    ap (λ o. record { observer = o; place = t.place; in_gap = t.in_gap }) e
    ∙ ap (λ g. record { observer = observer_unknown; place = t.place; in_gap = g }) gap

pub returns-then-is_lost-clause-observer : goal.returns-then-is_lost-clause-observer
returns-then-is_lost-clause-observer g c =
    let old = c.args.observer.now in
    let e : old ≡ observer_text_among_junk old.place = is_among old (c.is_lost.ensures.gap c.if-is_lost.true)
    (c.is_lost.ensures.unknown c.if-is_lost.true) in
    ap (at old) c.saturating_add-observer.ensures
    ∙ ap (λ t. at t (min (old.place + c.args.count) (2 ^ 64 - 1))) e
    ∙ sym (observer_text_after_junk c.args.count old.place (omega arith))
    ∙ ap (trace_observer_after (replicate c.args.count (Junk false))) (sym e)

pub returns-then-is_lost-clause-bytes : goal.returns-then-is_lost-clause-bytes
returns-then-is_lost-clause-bytes g c =
    let old = c.args.observer.now in
    let e : old ≡ observer_text_among_junk old.place = is_among old (c.is_lost.ensures.gap c.if-is_lost.true)
    (c.is_lost.ensures.unknown c.if-is_lost.true) in
    sym (append-nil c.args.text.now.bytes)
    ∙ ap (λ x. c.args.text.now.bytes ++ x) (sym (observer_text_junk_silent c.args.count old.place)
    ∙ ap (observer_text_of_items (replicate c.args.count (Junk false))) (sym e))

pub returns-clause-observer : goal.returns-clause-observer
returns-clause-observer g c =
    let some : 0 < c.args.count = omega (arith, c.if-count-eq0.false) in
    ap (at c.watch.new.self) c.saturating_add-observer-2.ensures
    ∙ ap (λ t. at t (min (t.place + (c.args.count - 1)) (2 ^ 64 - 1))) c.watch.ensures.observer
    ∙ sym (observer_text_after_skip c.args.count c.args.observer.now some)

pub returns-clause-bytes : goal.returns-clause-bytes
returns-clause-bytes g c =
    let some : 0 < c.args.count = omega (arith, c.if-count-eq0.false) in
    c.push_shown.ensures.bytes
    ∙ ap (λ s. c.args.text.now.bytes ++ observer_text_shown s) c.watch.ensures.shown
    ∙ ap (λ x. c.args.text.now.bytes ++ x) (sym (observer_text_skip_shows c.args.count c.args.observer.now some))
