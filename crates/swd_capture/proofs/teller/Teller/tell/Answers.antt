use Rattle.std.proofs.Common.{◌++◌, sym, ap, ◌∙◌, subst}
use Rattle.std.proofs.lemmas.List.{append-nil}
use Rattle.swd_observer.specs.Traces.{trace_observer_after}
use Rattle.swd_capture.specs.Accesses.{observer_text_of_items}
use Rattle.swd_capture.specs.declared.printed.Printed.TheVariants.{Lines}
use Rattle.swd_capture.specs.Gaps.{capture_due_at, capture_waiting}
use Rattle.swd_capture.specs.Printing.{capture_printed_entry}
use Rattle.swd_capture.specs.Tellers.{CaptureTellingAfter, IsCaptureWatching}
use Rattle.swd_capture.proofs.TellerLemmas.{capture_observer_more, capture_waiting_more}
use Rattle.swd_capture.proofs.teller.Teller.tell.Goals as goal

pub returns-in-Lines-clause-after : goal.returns-in-Lines-clause-after
returns-in-Lines-clause-after g c = λ printed parts h.
    let keeps = subst (CaptureTellingAfter printed parts) c.in-Lines.is h.keeps in
    record { keeps = (keeps.0 ∙ ap Lines (sym c.tell.ensures.form), c.tell.ensures.after parts keeps.1) }

pub returns-in-Lines-clause-bytes : goal.returns-in-Lines-clause-bytes
returns-in-Lines-clause-bytes g c = λ printed parts h.
    let keeps = subst (CaptureTellingAfter printed parts) c.in-Lines.is h.keeps in
    c.tell.ensures.bytes parts keeps.1
    ∙ ap (λ p. c.args.text.now.bytes ++ capture_printed_entry p parts c.args.part.now) (sym keeps.0)

pub returns-in-Counts-clause-after : goal.returns-in-Counts-clause-after
returns-in-Counts-clause-after g c = λ printed parts h.
    let keeps = subst (CaptureTellingAfter printed parts) c.in-Counts.is h.keeps in
    record { keeps = (keeps.0, c.add.ensures parts keeps.1) }

pub returns-in-Counts-clause-bytes : goal.returns-in-Counts-clause-bytes
returns-in-Counts-clause-bytes g c = λ printed parts h.
    let keeps = subst (CaptureTellingAfter printed parts) c.in-Counts.is h.keeps in
    sym (append-nil c.args.text.now.bytes)
    ∙ ap (λ p. c.args.text.now.bytes ++ capture_printed_entry p parts c.args.part.now) (sym keeps.0)

pub returns-in-Accesses-clause-after : goal.returns-in-Accesses-clause-after
returns-in-Accesses-clause-after g c = λ printed parts h.
    let part = c.args.part.now in
    let keeps = subst (CaptureTellingAfter printed parts) c.in-Accesses.is h.keeps in
    let shows = c.watch.ensures.shows (capture_waiting parts) keeps.3 in
    record {
      keeps = (
        keeps.0,
        keeps.1,
        shows.observer ∙ ap (trace_observer_after (capture_due_at (capture_waiting parts) part)) keeps.2
            ∙ sym (capture_observer_more keeps.0 parts part),
        subst (λ r. IsCaptureWatching r c.watch.new.self) (sym (capture_waiting_more parts part)) shows.keeps,
      );
    }

pub returns-in-Accesses-clause-bytes : goal.returns-in-Accesses-clause-bytes
returns-in-Accesses-clause-bytes g c = λ printed parts h.
    let text = c.args.text.now.bytes in
    let part = c.args.part.now in
    let keeps = subst (CaptureTellingAfter printed parts) c.in-Accesses.is h.keeps in
    (c.watch.ensures.shows (capture_waiting parts) keeps.3).bytes
    ∙ ap (λ o. text ++ observer_text_of_items (capture_due_at (capture_waiting parts) part) o) keeps.2
    ∙ ap (λ p. text ++ capture_printed_entry p parts part) (sym keeps.1)
