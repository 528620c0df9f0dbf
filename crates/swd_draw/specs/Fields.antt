-- The fields of transactions and of other parts.
use Rattle.std.specs.Prelude.{ℕ, zero, suc, ◌^◌, ◌%◌, Bool, true, false, not, List, [], ◌∷◌, ◌++◌, length}
use Rattle.std.specs.Prelude.{if◌then◌else◌}
use Rattle.swd_bits.specs.Bits.{low_bits, bits_number, odd}
use Rattle.swd_bits.specs.BitLists.{tx_bits_of}
use Rattle.swd_bits.specs.Wire.{addr_bits}
use Rattle.swd_bits.specs.Acks.{bits_of_ack}
use Rattle.swd_bits.specs.declared.ack.Ack.TheVariants.{Ok as AckOk, Wait as AckWait, Fault as AckFault}
use Rattle.swd_bits.specs.declared.request.Request.{Request}
use Rattle.swd_bits.specs.declared.tx.Tx.{Tx as Transaction}
use Rattle.swd_bits.specs.declared.tx.TxEnd.{TxEnd}
use Rattle.swd_bits.specs.declared.tx.TxEnd.TheVariants.{Moved, Wait, Fault, NoAck}
use Rattle.swd_draw.specs.declared.field.Field.{Field}
use Rattle.swd_draw.specs.declared.field.Name.{Name}
use Rattle.swd_draw.specs.declared.field.Name.TheVariants.{Start, Port, Direction, Address, Parity, Stop, Park}
use Rattle.swd_draw.specs.declared.field.Name.TheVariants.{Turnaround, Ack, ReadData, WriteData, Ignored}
use Rattle.swd_draw.specs.declared.field.Shade.{Shade}
use Rattle.swd_draw.specs.declared.field.Shade.TheVariants.{Host, Target, Undriven, Wrong, Unknown, Hidden}

-- a field with these bits, in one number
abbrev pub drawn_field : Name → Shade → List Bool → Field
drawn_field name shade bits =
    record { name = name; shade = shade; bits = record { len = length bits; bits = bits_number bits } }

-- the packet request: IHI 0031, B4, "Packet request"
abbrev pub drawn_request_fields : Request → List Field
drawn_request_fields q =
    drawn_field Start Host (true ∷ []) ∷ drawn_field Port Host (q.ap ∷ []) ∷ drawn_field Direction Host (q.read ∷ [])
    ∷ drawn_field Address Host (addr_bits q.addr)
    ∷ drawn_field Parity Host (odd (q.ap ∷ q.read ∷ addr_bits q.addr) ∷ []) ∷ drawn_field Stop Host (false ∷ [])
    ∷ drawn_field Park Host (true ∷ []) ∷ []

-- a turnaround, in which nobody drives the line
abbrev pub drawn_turnaround : Field
drawn_turnaround = drawn_field Turnaround Undriven (true ∷ [])

-- the acknowledgement; three bits that aren't one may come from anyone
abbrev pub drawn_ack_field : TxEnd → Field
drawn_ack_field (Moved word ok) = drawn_field Ack Target (bits_of_ack AckOk)
drawn_ack_field Wait = drawn_field Ack Target (bits_of_ack AckWait)
drawn_ack_field Fault = drawn_field Ack Target (bits_of_ack AckFault)
drawn_ack_field (NoAck seen) = record { name = Ack; shade = Unknown; bits = record { len = 3; bits = seen % 2 ^ 3 } }

-- the parity bit of a word, inverted unless `ok`
abbrev pub drawn_word_parity : ℕ → Bool → Bool
drawn_word_parity word ok = if ok then odd (low_bits 32 word) else not (odd (low_bits 32 word))

abbrev pub parity_shade : Shade → Bool → Shade
parity_shade shade true = shade
parity_shade shade false = Wrong

-- the data phase: the word, and its parity
abbrev pub drawn_word_fields : Name → Shade → ℕ → Bool → List Field
drawn_word_fields name shade word ok =
    record { name = name; shade = shade; bits = record { len = 32; bits = word } }
    ∷ drawn_field Parity (parity_shade shade ok) (drawn_word_parity word ok ∷ []) ∷ []

-- a turnaround is behind the data of a read, and before those of a write
abbrev pub drawn_moved_fields : Bool → ℕ → Bool → List Field
drawn_moved_fields true word ok = drawn_word_fields ReadData Target word ok ++ drawn_turnaround ∷ []
drawn_moved_fields false word ok = drawn_turnaround ∷ drawn_word_fields WriteData Host word ok

-- the fields behind the acknowledgement
abbrev pub drawn_tail_fields : Bool → TxEnd → List Field
drawn_tail_fields read (Moved word ok) = drawn_moved_fields read word ok
drawn_tail_fields read Wait = drawn_turnaround ∷ []
drawn_tail_fields read Fault = drawn_turnaround ∷ []
drawn_tail_fields read (NoAck seen) = []

-- the fields of a transaction
abbrev pub drawn_tx_fields : Transaction → List Field
drawn_tx_fields tx =
    drawn_request_fields tx.request
    ++ (drawn_turnaround ∷ drawn_ack_field tx.result ∷ drawn_tail_fields tx.request.read tx.result)

-- a data phase without meaning behind WAIT and FAULT
abbrev pub drawn_ignored_fields : ℕ → List Field
drawn_ignored_fields zero = []
drawn_ignored_fields (suc n) =
    record { name = Ignored; shade = Hidden; bits = record { len = suc n; bits = 0 } } ∷ []

-- the bits of some fields
abbrev pub bits_of_drawn_fields : List Field → List Bool
bits_of_drawn_fields [] = []
bits_of_drawn_fields (f ∷ fields) = tx_bits_of f.bits ++ bits_of_drawn_fields fields
