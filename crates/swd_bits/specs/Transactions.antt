-- Transactions as bits in time order.
use Rattle.std.specs.Prelude.{◌≡◌, ℕ, ◌^◌, ◌<◌, Bool, true, false, not, List, [], ◌∷◌, ◌++◌, ◌⊎◌, if◌then◌else◌}
use Rattle.swd_bits.specs.Bits.{low_bits, odd}
use Rattle.swd_bits.specs.Wire.{bits_of_request}
use Rattle.swd_bits.specs.Acks.{bits_of_ack}
use Rattle.swd_bits.specs.declared.ack.Ack.TheVariants.{Ok as AckOk, Wait as AckWait, Fault as AckFault}
use Rattle.swd_bits.specs.declared.tx.TxEnd.{TxEnd}
use Rattle.swd_bits.specs.declared.tx.TxEnd.TheVariants.{Moved, Wait, Fault, NoAck}
use Rattle.swd_bits.specs.declared.tx.Tx.{Tx}

-- the word's bits, and its parity, inverted unless `ok`
unfoldable pub phase_with : ℕ → Bool → List Bool
phase_with word ok = low_bits 32 word ++ (if ok then odd (low_bits 32 word) else not (odd (low_bits 32 word))) ∷ []

-- a data phase and a turnaround, for a read and for a write
abbrev pub moved_data_phase : Bool → Bool → List Bool → List Bool
moved_data_phase true t phase = phase ++ t ∷ []
moved_data_phase false t phase = t ∷ phase

-- the acknowledgement's bits
abbrev pub tx_ack_bits : TxEnd → List Bool
tx_ack_bits (Moved word ok) = bits_of_ack AckOk
tx_ack_bits Wait = bits_of_ack AckWait
tx_ack_bits Fault = bits_of_ack AckFault
tx_ack_bits (NoAck seen) = low_bits 3 seen

-- the bits after the acknowledgement
abbrev pub tx_tail_bits : Bool → TxEnd → Bool → List Bool
tx_tail_bits read (Moved word ok) t = moved_data_phase read t (phase_with word ok)
tx_tail_bits read Wait t = t ∷ []
tx_tail_bits read Fault t = t ∷ []
tx_tail_bits read (NoAck seen) t = []

-- the bits after the first turnaround
abbrev pub tx_ending_bits : Bool → TxEnd → Bool → List Bool
tx_ending_bits read end t = tx_ack_bits end ++ tx_tail_bits read end t

-- the bits of a transaction, with these turnarounds
abbrev pub tx_spelling_bits : Tx → Bool → Bool → List Bool
tx_spelling_bits tx t u = bits_of_request tx.request ++ t ∷ tx_ending_bits tx.request.read tx.result u

-- a word has 32 bits, and three bits that aren't an acknowledgement are one of five numbers
abbrev pub IsTxEnd : TxEnd → Type 0
IsTxEnd (Moved word ok) = word < 2 ^ 32
IsTxEnd Wait = Unit {0}
IsTxEnd Fault = Unit {0}
IsTxEnd (NoAck seen) = (seen ≡ 0) ⊎ (seen ≡ 3) ⊎ (seen ≡ 5) ⊎ (seen ≡ 6) ⊎ (seen ≡ 7)

abbrev pub IsTx : Tx → Type 0
IsTx tx = IsTxEnd tx.result

-- these bits are this transaction
abbrev pub SpellsTx : Tx → List Bool → Type 0
SpellsTx tx bits = IsTx tx × (t : Bool) × (u : Bool) × (bits ≡ tx_spelling_bits tx t u)

-- the end moved a word, with these bits
abbrev pub HasMovedDataPhase : Bool → TxEnd → List Bool → Type 0
HasMovedDataPhase read (Moved word ok) bits = (word < 2 ^ 32) × (u : Bool)
    × (bits ≡ moved_data_phase read u (phase_with word ok))
HasMovedDataPhase read Wait bits = ⊥
HasMovedDataPhase read Fault bits = ⊥
HasMovedDataPhase read (NoAck seen) bits = ⊥
