use Rattle.std.proofs.Common.{◌++◌, ◌∙◌}
use Rattle.swd_trace.proofs.RunLemmas.{decoder_items_whole_reading, reading_items_are_normal}
use Rattle.swd_trace.proofs.SpelledLemmas.{tx_items_read}
use Rattle.swd_trace.proofs.decoder.Decoder.finish.Goals as goal

pub returns-clause-again : goal.returns-clause-again
returns-clause-again c = λ bits items h.
    reading_items_are_normal bits (items ++ c.loop-item.items.items)
    (decoder_items_whole_reading c.args.self c.loop-item.decoder bits items c.loop-item.items.items
    c.loop-item.invariant.law c.in_default.ensures.none h)

pub returns-clause-transactions : goal.returns-clause-transactions
returns-clause-transactions c = λ txs bits items s h.
    decoder_items_whole_reading c.args.self c.loop-item.decoder bits items c.loop-item.items.items
    c.loop-item.invariant.law c.in_default.ensures.none h ∙ tx_items_read txs bits s
