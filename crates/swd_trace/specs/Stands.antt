-- Whether the front of some bits is a transaction, or the beginning of one.
use Rattle.std.specs.Prelude.{ℕ, zero, suc, Bool, true, false, not, List, [], ◌∷◌, length, take, drop, nat_le}
use Rattle.std.specs.Prelude.{if◌then◌else◌}
use Rattle.swd_bits.specs.Bits.{bits_number, odd}
use Rattle.swd_bits.specs.declared.request.Request.{Request}
use Rattle.swd_bits.specs.declared.request.Reg4.{Reg4}
use Rattle.swd_bits.specs.declared.request.Reg4.TheVariants.{R0, R4, R8, RC}
use Rattle.swd_bits.specs.declared.tx.TxEnd.{TxEnd}
use Rattle.swd_bits.specs.declared.tx.TxEnd.TheVariants.{Moved, Wait, Fault, NoAck}
use Rattle.swd_bits.specs.declared.tx.Tx.{Tx}

-- the bits begin with a whole transaction of this length, are a proper prefix of a transaction, or begin as
-- no transaction does
pub data Stand : Type 0 where
  Whole : (tx : Tx) (len : ℕ) → Stand
  Begun : Stand
  Broken : Stand

-- the register with these address bits, A[2] first
abbrev pub stand_reg4_at : Bool → Bool → Reg4
stand_reg4_at false false = R0
stand_reg4_at true false = R4
stand_reg4_at false true = R8
stand_reg4_at true true = RC

-- the word and the parity of a data phase
abbrev pub stand_moved_in : List Bool → TxEnd
stand_moved_in phase = Moved (bits_number (take 32 phase)) (not (odd phase))

-- a read's data phase comes before the last turnaround, a write's after it
abbrev pub stand_phase_in : Bool → List Bool → List Bool
stand_phase_in true bits = take 33 bits
stand_phase_in false bits = take 33 (drop 1 bits)

-- after OK: a data phase and a turnaround
abbrev pub stand_after_ok : Request → List Bool → Stand
stand_after_ok q bits = if nat_le 34 (length bits) then Whole
    (record { request = q; result = stand_moved_in (stand_phase_in q.read bits) }) 46 else Begun

-- after WAIT and FAULT: a turnaround
abbrev pub stand_after_refusal : Request → TxEnd → List Bool → Stand
stand_after_refusal q end [] = Begun
stand_after_refusal q end (t ∷ bits) = Whole (record { request = q; result = end }) 13

-- after the acknowledgement: OK, WAIT, FAULT, or no acknowledgement
abbrev pub stand_after_ack : Request → Bool → Bool → Bool → List Bool → Stand
stand_after_ack q true false false bits = stand_after_ok q bits
stand_after_ack q false true false bits = stand_after_refusal q Wait bits
stand_after_ack q false false true bits = stand_after_refusal q Fault bits
stand_after_ack q a b c bits = Whole (record { request = q; result = NoAck (bits_number (a ∷ b ∷ c ∷ [])) }) 12

-- after the request: a turnaround and an acknowledgement
abbrev pub stand_after_request : Request → List Bool → Stand
stand_after_request q (t ∷ a ∷ b ∷ c ∷ bits) = stand_after_ack q a b c bits
stand_after_request q bits = Begun

-- the park bit is 1
abbrev pub stand_after_stop : Request → List Bool → Stand
stand_after_stop q [] = Begun
stand_after_stop q (true ∷ bits) = stand_after_request q bits
stand_after_stop q (false ∷ bits) = Broken

-- the stop bit is 0
abbrev pub stand_after_parity : Request → List Bool → Stand
stand_after_parity q [] = Begun
stand_after_parity q (false ∷ bits) = stand_after_stop q bits
stand_after_parity q (true ∷ bits) = Broken

-- the start bit is 1; port, direction, address and parity have an even number of ones
abbrev pub stands : List Bool → Stand
stands (true ∷ ap ∷ read ∷ a ∷ b ∷ parity ∷ bits) =
    if odd (ap ∷ read ∷ a ∷ b ∷ parity ∷ []) then Broken else stand_after_parity
    (record { ap = ap; read = read; addr = stand_reg4_at a b }) bits
stands (false ∷ bits) = Broken
stands bits = Begun

-- how many bits a transaction has, by the number of its acknowledgement
abbrev pub stand_tx_len : ℕ → ℕ
stand_tx_len zero = 12
stand_tx_len (suc zero) = 46
stand_tx_len (suc (suc zero)) = 13
stand_tx_len (suc (suc (suc zero))) = 12
stand_tx_len (suc (suc (suc (suc zero)))) = 13
stand_tx_len (suc (suc (suc (suc (suc n))))) = 12
