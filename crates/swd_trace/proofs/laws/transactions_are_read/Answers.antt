use Rattle.swd_trace.proofs.SpelledLemmas.{tx_items_read, trace_txs_never_fifty_ones}
use Rattle.swd_trace.proofs.laws.transactions_are_read.Goals as goal

pub returns-clause-read : goal.returns-clause-read
returns-clause-read c = tx_items_read

pub returns-clause-no_reset : goal.returns-clause-no_reset
returns-clause-no_reset c = λ txs bits front back h. trace_txs_never_fifty_ones txs bits h front back
