use Rattle.std.proofs.Common.{map, subst}
use Rattle.swd_bits.specs.BitLists.{tx_bits_of}
use Rattle.swd_trace.specs.declared.item.Item.TheVariants.{Junk}
use Rattle.swd_capture_text.specs.Sources.{SourceHas}
use Rattle.swd_capture_text.proofs.SourceLemmas.{source_gives_items, source_if_some}
use Rattle.swd_capture_text.proofs.source.Source.due_junk.Goals as goal

pub returns-in-Trace-clause-junk : goal.returns-in-Trace-clause-junk
returns-in-Trace-clause-junk c = source_if_some c.due_junk.result
    (λ found reads reading bits parts h.
    source_gives_items reading c.in-Trace.decoder c.due_junk.new.self bits parts (map Junk (tx_bits_of found))
    (λ items has. reads bits items has) (subst (λ s. SourceHas reading s bits parts) c.in-Trace.is h))
    c.due_junk.ensures.read
