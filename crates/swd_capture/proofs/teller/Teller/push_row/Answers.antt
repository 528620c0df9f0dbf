use Rattle.std.proofs.Common.{◌++◌, sym, ap, ◌∙◌, subst}
use Rattle.swd_observer.specs.Observing.{observed_last_accesses}
use Rattle.swd_observer.specs.Traces.{trace_observer_after}
use Rattle.swd_capture.specs.Accesses.{observer_text_of_items, observer_text_reported}
use Rattle.swd_capture.specs.Gaps.{capture_run_items, capture_waiting}
use Rattle.swd_capture.specs.Printing.{capture_end_row_printed}
use Rattle.swd_capture.specs.Tellers.{CaptureTellingAfter}
use Rattle.swd_capture.proofs.TellerLemmas.{capture_later_row}
use Rattle.swd_capture.proofs.teller.Teller.push_row.Goals as goal

pub returns-then-row-eq0-clause-bytes : goal.returns-then-row-eq0-clause-bytes
returns-then-row-eq0-clause-bytes g c = λ printed parts h.
    let text = c.args.text.now.bytes in
    let keeps = subst (CaptureTellingAfter printed parts) c.in-Accesses.is h.keeps in
    c.push_held.ensures.bytes (capture_waiting parts) keeps.3
    ∙ ap (λ o. text ++ observer_text_of_items (capture_run_items (capture_waiting parts)) o) keeps.2
    ∙ ap (λ p. text ++ capture_end_row_printed p parts 0) (sym keeps.1)
    ∙ ap (λ r. text ++ capture_end_row_printed printed parts r) (sym c.if-row-eq0.true)

pub returns-else-row-eq0-clause-bytes : goal.returns-else-row-eq0-clause-bytes
returns-else-row-eq0-clause-bytes g c = λ printed parts h.
    let text = c.args.text.now.bytes in
    let keeps = subst (CaptureTellingAfter printed parts) c.in-Accesses.is h.keeps in
    c.push_last.ensures.bytes (capture_waiting parts) keeps.3
    ∙ ap (λ o. text ++ observer_text_reported (observed_last_accesses
    (trace_observer_after (capture_run_items (capture_waiting parts)) o).observer)) keeps.2
    ∙ ap (λ x. text ++ x) (sym (capture_later_row keeps.0 parts c.args.row c.if-row-eq0.false))
    ∙ ap (λ p. text ++ capture_end_row_printed p parts c.args.row) (sym keeps.1)
