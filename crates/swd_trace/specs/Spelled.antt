-- Lists of bits that are transactions alone.
use Rattle.std.specs.Prelude.{◌≡◌, Bool, List, [], ◌∷◌, ◌++◌}
use Rattle.swd_bits.specs.Transactions.{SpellsTx}
use Rattle.swd_bits.specs.declared.tx.TxEnd.{TxEnd}
use Rattle.swd_bits.specs.declared.tx.TxEnd.TheVariants.{Moved, Wait, Fault, NoAck}
use Rattle.swd_bits.specs.declared.tx.Tx.{Tx}

-- OK, WAIT or FAULT was seen
abbrev pub IsTraceTxAcknowledged : TxEnd → Type 0
IsTraceTxAcknowledged (Moved word ok) = Unit {0}
IsTraceTxAcknowledged Wait = Unit {0}
IsTraceTxAcknowledged Fault = Unit {0}
IsTraceTxAcknowledged (NoAck seen) = ⊥

-- the bits are these transactions in order, each of them acknowledged
abbrev pub AreTraceTransactions : List Tx → List Bool → Type 0
AreTraceTransactions [] bits = bits ≡ []
AreTraceTransactions (tx ∷ txs) bits =
    (front : List Bool) × (rest : List Bool) × (bits ≡ front ++ rest) × SpellsTx tx front
    × IsTraceTxAcknowledged tx.result × AreTraceTransactions txs rest
