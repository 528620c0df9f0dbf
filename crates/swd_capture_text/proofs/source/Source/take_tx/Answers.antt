use Rattle.std.proofs.Common.{◌+◌, subst, sym, ap, ◌∙◌}
use Rattle.swd_bits.specs.Bits.{low_bits}
use Rattle.swd_capture_text.specs.Sources.{SourceHas, source_fed}
use Rattle.swd_capture_text.proofs.SourceLemmas.{source_capture_follows, source_if_some, source_on_some}
use Rattle.swd_capture_text.proofs.source.Source.take_tx.Goals as goal

pub returns-in-Capture-clause-has : goal.returns-in-Capture-clause-has
returns-in-Capture-clause-has c = source_on_some c.take_tx.result
    (λ found takes reads reading before parts h.
    source_capture_follows c.in-Capture.decoder c.take_tx.new.self (low_bits found.taken c.args.bits) found.part reads
    takes.held reading before parts (subst (λ s. SourceHas reading s before parts) c.in-Capture.is h))
    c.take_tx.ensures.part c.take_tx.ensures.read

pub returns-in-Capture-clause-most : goal.returns-in-Capture-clause-most
returns-in-Capture-clause-most c = source_if_some c.take_tx.result (λ found takes. takes.most) c.take_tx.ensures.part

pub returns-in-Capture-clause-ready : goal.returns-in-Capture-clause-ready
returns-in-Capture-clause-ready c =
    source_if_some c.take_tx.result (λ found takes. takes.settled) c.take_tx.ensures.part

pub returns-in-Capture-clause-fed : goal.returns-in-Capture-clause-fed
returns-in-Capture-clause-fed c = source_if_some c.take_tx.result
    (λ found takes. takes.fed ∙ ap (λ s. source_fed s + found.taken) (sym c.in-Capture.is)) c.take_tx.ensures.part
