use Rattle.std.proofs.Common.{true, sym, ap, ◌∙◌}
use Rattle.swd_trace.proofs.SpellingLemmas.{trace_tx_len, trace_spelling_length}
use Rattle.swd_trace.proofs.bit_count.tx_bit_count.Goals as goal

pub returns-in-Moved : goal.returns-in-Moved
returns-in-Moved c = sym (trace_spelling_length c.args.tx.now true true ∙ ap trace_tx_len c.in-Moved.is)

pub returns-in-NoAck : goal.returns-in-NoAck
returns-in-NoAck c = sym (trace_spelling_length c.args.tx.now true true ∙ ap trace_tx_len c.in-NoAck.is)
