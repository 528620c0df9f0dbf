use Rattle.swd_bits.proofs.TxLemmas.{no_tx_bits_begin_another, tx_bits_injective}
use Rattle.swd_bits.proofs.tx.transactions_are_told_apart.Goals as goal

pub returns-clause-front : goal.returns-clause-front
returns-clause-front c = no_tx_bits_begin_another

pub returns-clause-one : goal.returns-clause-one
returns-clause-one c = tx_bits_injective
