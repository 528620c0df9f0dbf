use Rattle.std.proofs.Common.{[], ◌∷◌, subst}
use Rattle.swd_capture_text.specs.Sources.{SourceHas}
use Rattle.swd_capture_text.proofs.SourceLemmas.{source_gives_items, source_on_none, source_capture_settled}
use Rattle.swd_capture_text.proofs.source.Source.due.Goals as goal

pub returns-in-Some-clause-part : goal.returns-in-Some-clause-part
returns-in-Some-clause-part c = λ reading bits parts h.
    source_gives_items reading c.in-Trace.decoder c.due.new.self bits parts (c.in-Some.item ∷ [])
    (λ items has. c.in-Some.ensures.read bits items has) (subst (λ s. SourceHas reading s bits parts) c.in-Trace.is h)

pub returns-in-Capture-clause-none : goal.returns-in-Capture-clause-none
returns-in-Capture-clause-none c =
    source_on_none c.due-in-Capture.result (λ same few reading bits parts h.
    source_capture_settled c.in-Capture.decoder c.due-in-Capture.new.self same few reading bits parts
    (subst (λ s. SourceHas reading s bits parts) c.in-Capture.is h))
    c.due-in-Capture.ensures.same c.due-in-Capture.ensures.held
