use Rattle.swd_trace.specs.Reading.{reading_of}
use Rattle.swd_capture_text.proofs.SourceLemmas.{source_items_of_trace}
use Rattle.swd_capture_text.proofs.laws.traces_are_their_items.Goals as goal

pub returns : goal.returns
returns c = λ bits. source_items_of_trace (reading_of bits)
