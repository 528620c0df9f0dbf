-- Laws of the fields of a transaction.
use Rattle.std.proofs.Common.{◌≡◌, ℕ, Bool, true, false, List, [], ◌∷◌, ◌++◌, refl, sym, ap, ap₂, ◌∙◌, append_assoc}
use Rattle.swd_bits.specs.Bits.{low_bits, bits_number}
use Rattle.swd_bits.specs.BitLists.{tx_bits_of}
use Rattle.swd_bits.specs.Wire.{bits_of_request}
use Rattle.swd_bits.specs.Acks.{bits_of_ack}
use Rattle.swd_bits.specs.Transactions.{tx_ack_bits, phase_with, tx_spelling_bits, tx_tail_bits}
use Rattle.swd_bits.specs.declared.ack.Ack.TheVariants.{Ok as AckOk, Wait as AckWait, Fault as AckFault}
use Rattle.swd_bits.specs.declared.request.Reg4.{Reg4}
use Rattle.swd_bits.specs.declared.request.Reg4.TheVariants.{R0, R4, R8, RC}
use Rattle.swd_bits.specs.declared.tx.Tx.{Tx}
use Rattle.swd_bits.specs.declared.tx.TxEnd.{TxEnd}
use Rattle.swd_bits.specs.declared.tx.TxEnd.TheVariants.{Moved, Wait, Fault, NoAck}
use Rattle.swd_bits.proofs.BitsLemmas.{low_bits-number}
use Rattle.swd_trace.proofs.NumberLemmas.{decoder_bits_mod}
use Rattle.swd_draw.specs.declared.field.Field.{Field}
use Rattle.swd_draw.specs.declared.field.Name.{Name}
use Rattle.swd_draw.specs.declared.field.Name.TheVariants.{ReadData, WriteData}
use Rattle.swd_draw.specs.declared.field.Shade.{Shade}
use Rattle.swd_draw.specs.declared.field.Shade.TheVariants.{Host, Target}
use Rattle.swd_draw.specs.Fields.{drawn_ack_field, bits_of_drawn_fields, drawn_request_fields, drawn_tail_fields}
use Rattle.swd_draw.specs.Fields.{drawn_turnaround, drawn_tx_fields, drawn_word_fields, drawn_word_parity}

bits_more : (fields more : List Field) → bits_of_drawn_fields (fields ++ more) ≡ bits_of_drawn_fields fields
    ++ bits_of_drawn_fields more
bits_more [] more = refl
bits_more (f ∷ fields) more =
    ap (λ x. tx_bits_of f.bits ++ x) (bits_more fields more)
    ∙ sym (append_assoc (tx_bits_of f.bits) (bits_of_drawn_fields fields) (bits_of_drawn_fields more))

-- the request, by its parts
asked : (ap read : Bool) (addr : Reg4)
    → bits_of_drawn_fields (drawn_request_fields (record { ap = ap; read = read; addr = addr }))
    ≡ bits_of_request (record { ap = ap; read = read; addr = addr })
unfolding low_bits
asked true true R0 = refl
asked true true R4 = refl
asked true true R8 = refl
asked true true RC = refl
asked true false R0 = refl
asked true false R4 = refl
asked true false R8 = refl
asked true false RC = refl
asked false true R0 = refl
asked false true R4 = refl
asked false true R8 = refl
asked false true RC = refl
asked false false R0 = refl
asked false false R4 = refl
asked false false R8 = refl
asked false false RC = refl

-- one bit
one : (b : Bool) → low_bits 1 (bits_number (b ∷ [])) ≡ b ∷ []
one b = low_bits-number (b ∷ [])

word_bits : (name : Name) (shade : Shade) (word : ℕ) (ok : Bool)
    → bits_of_drawn_fields (drawn_word_fields name shade word ok) ≡ phase_with word ok
unfolding phase_with
word_bits name shade word ok = ap (λ x. low_bits 32 word ++ (x ++ [])) (one (drawn_word_parity word ok))

ack_bits : (end : TxEnd) → tx_bits_of (drawn_ack_field end).bits ≡ tx_ack_bits end
ack_bits (Moved word ok) = low_bits-number (bits_of_ack AckOk)
ack_bits Wait = low_bits-number (bits_of_ack AckWait)
ack_bits Fault = low_bits-number (bits_of_ack AckFault)
ack_bits (NoAck seen) = decoder_bits_mod 3 seen

turn_bits : bits_of_drawn_fields (drawn_turnaround ∷ []) ≡ true ∷ []
turn_bits = ap (λ x. x ++ []) (one true)

tail_bits : (read : Bool) (end : TxEnd) → bits_of_drawn_fields (drawn_tail_fields read end) ≡ tx_tail_bits read end true
tail_bits true (Moved word ok) =
    bits_more (drawn_word_fields ReadData Target word ok) (drawn_turnaround ∷ [])
    ∙ ap₂ (λ x y. x ++ y) (word_bits ReadData Target word ok) turn_bits
tail_bits false (Moved word ok) =
    ap₂ (λ x y. x ++ y) (one true) (word_bits WriteData Host word ok)
tail_bits read Wait = turn_bits
tail_bits read Fault = turn_bits
tail_bits read (NoAck seen) = refl

-- the bits of a transaction's fields are the transaction's
pub drawn_fields_spell : (tx : Tx) → bits_of_drawn_fields (drawn_tx_fields tx) ≡ tx_spelling_bits tx true true
drawn_fields_spell tx =
    bits_more (drawn_request_fields tx.request)
    (drawn_turnaround ∷ drawn_ack_field tx.result ∷ drawn_tail_fields tx.request.read tx.result)
    ∙ ap₂ (λ x y. x ++ y) (asked tx.request.ap tx.request.read tx.request.addr)
    (ap₂ (λ x y. x ++ y) (one true)
    (ap₂ (λ x y. x ++ y) (ack_bits tx.result) (tail_bits tx.request.read tx.result)))
