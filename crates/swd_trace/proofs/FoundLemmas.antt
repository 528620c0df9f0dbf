-- Laws of a transaction that is found whole in bits that come.
use Rattle.std.proofs.Common.{◌≡◌, ℕ, zero, suc, ◌+◌, ◌-◌, ◌*◌, ◌/◌, ◌%◌, ◌^◌, ◌<◌, ◌≤◌, Bool, true, false, List, []}
use Rattle.std.proofs.Common.{◌∷◌, ◌++◌, length, drop, replicate, bit_and, refl, sym, ap, ◌∙◌, append_assoc, arith}
use Rattle.std.proofs.lemmas.List.{drop_at}
use lib.Count.{count_trailing_zeros}
use Rattle.swd_bits.specs.Bits.{low_bits}
use Rattle.swd_bits.specs.Wire.{bits_of_request}
use Rattle.swd_bits.specs.Transactions.{SpellsTx}
use Rattle.swd_bits.specs.declared.request.Request.{Request}
use Rattle.swd_bits.specs.declared.tx.Tx.{Tx as Transaction}
use Rattle.swd_bits.specs.declared.tx.TxEnd.{TxEnd}
use Rattle.swd_bits.specs.declared.tx.TxEnd.TheVariants.{Moved, Wait, Fault, NoAck}
use Rattle.swd_bits.proofs.BitsLemmas.{length-low_bits}
use Rattle.swd_bits.proofs.TxLemmas.{tx_bits_at_least_12}
use Rattle.swd_trace.specs.declared.item.Item.{Item}
use Rattle.swd_trace.specs.declared.item.Item.TheVariants.{Tx, Idle}
use Rattle.swd_trace.specs.declared.mode.Mode.{Mode}
use Rattle.swd_trace.specs.declared.mode.Mode.TheVariants.{Synced}
use Rattle.swd_trace.specs.Stands.{Whole, stands, stand_tx_len}
use Rattle.swd_trace.specs.Reading.{decoder_mode_after_tx, reading, reading_of}
use Rattle.swd_trace.specs.Held.{idle_items}
use Rattle.swd_trace.specs.Spelled.{IsTraceTxAcknowledged}
use Rattle.swd_trace.proofs.NumberLemmas.{decoder_bits_parted, decoder_bits_mod, decoder_zeros_at_front}
use Rattle.swd_trace.proofs.NumberLemmas.{decoder_bits_none}
use Rattle.swd_trace.proofs.GrammarLemmas.{decoder_ack_number, DecoderAfterRequest, decoder_tx_len_least}
use Rattle.swd_trace.proofs.GrammarLemmas.{decoder_tx_len_most, decoder_tx_whole_by_len, decoder_found_tx_spelled}
use Rattle.swd_trace.proofs.ReadingLemmas.{tx_item_first, idle_item_before_one}
use Rattle.swd_trace.proofs.SpellingLemmas.{trace_stand_after_request, trace_stand_of_spelled_tx, trace_tx_len}
use Rattle.swd_trace.proofs.SpellingLemmas.{trace_spelling_length}

-- ---- what stands at the front

-- after eight bits that are a request
after_eight_bits : (q : Request) (v byte : ℕ) → byte ≡ v % 2 ^ 8 → bits_of_request q ≡ low_bits 8 byte
    → DecoderAfterRequest q 64 v
after_eight_bits q v byte e r = λ more.
    let front : low_bits 8 v ≡ bits_of_request q = sym (decoder_bits_mod 8 v) ∙ ap (low_bits 8) (sym e) ∙ sym r in
    ap (λ x. stands (x ++ more)) (decoder_bits_parted 8 64 v (omega arith) ∙ ap (λ x. x ++ low_bits 56 (v / 2 ^ 8))
    front) ∙ ap stands (append_assoc (bits_of_request q) (low_bits 56 (v / 2 ^ 8)) more)
    ∙ trace_stand_after_request q (low_bits 56 (v / 2 ^ 8) ++ more)

pub record FoundTxFront (v len : ℕ) : Type 0 where
  pub tx : Transaction
  pub spells : SpellsTx tx (low_bits len (bit_and v (1 * 2 ^ len % 2 ^ 64 - 1)))
  pub short : len ≤ 46
  pub some : 12 ≤ len

-- 64 bits that begin with a request begin with a whole transaction, whose length its three ACK bits give
pub found_tx_at_front : (q : Request) (v byte len : ℕ) → byte ≡ v % 2 ^ 8 → bits_of_request q ≡ low_bits 8 byte
    → len ≡ stand_tx_len (decoder_ack_number v) → FoundTxFront v len
found_tx_at_front q v byte len e r w =
    let most : stand_tx_len (decoder_ack_number v) ≤ 46 = decoder_tx_len_most (decoder_ack_number v) in
    let least : 12 ≤ stand_tx_len (decoder_ack_number v) = decoder_tx_len_least (decoder_ack_number v) in
    let found = decoder_tx_whole_by_len q 64 v (after_eight_bits q v byte e r) (omega arith) (omega arith) in
    record {
      tx = found.0;
      spells = decoder_found_tx_spelled 64 v len found.0 (omega arith) (omega arith)
          (found.1 ∙ ap (Whole found.0) (sym w));
      short = omega arith;
      some = omega arith;
    }

-- one that has more than twelve bits was acknowledged
pub found_tx_acknowledged : (end : TxEnd) → (trace_tx_len end ≡ 12 → ⊥) → IsTraceTxAcknowledged end
found_tx_acknowledged (Moved word ok) h = tt
found_tx_acknowledged Wait h = tt
found_tx_acknowledged Fault h = tt
found_tx_acknowledged (NoAck seen) h = h refl

-- a transaction that doesn't have exactly twelve bits was acknowledged
pub found_tx_front_has_ack : (n v : ℕ) (tx : Transaction) → SpellsTx tx (low_bits n v) → (n ≡ 12 → ⊥)
    → IsTraceTxAcknowledged tx.result
found_tx_front_has_ack n v tx s h = found_tx_acknowledged tx.result
    (λ e. h (sym (length-low_bits n v) ∙ ap length s.3 ∙ trace_spelling_length tx s.1 s.2 ∙ e))

-- ---- it is read

stays_synced : (end : TxEnd) → IsTraceTxAcknowledged end → decoder_mode_after_tx end ≡ Synced
stays_synced (Moved word ok) h = refl
stays_synced Wait h = refl
stays_synced Fault h = refl
stays_synced (NoAck seen) h = absurd h

tx_read : (tx : Transaction) (bits more : List Bool) → SpellsTx tx bits → IsTraceTxAcknowledged tx.result →
    reading Synced (bits ++ more) ≡ Tx tx ∷ reading Synced more
tx_read tx bits more s k =
    let some : 12 ≤ length bits = tx_bits_at_least_12 tx bits s in
    tx_item_first (bits ++ more) tx (length bits) (trace_stand_of_spelled_tx tx bits more s) (omega arith)
    ∙ ap (λ m. Tx tx ∷ reading m (drop (length bits) (bits ++ more))) (stays_synced tx.result k)
    ∙ ap (λ x. Tx tx ∷ reading Synced x) (drop_at bits more (length bits) refl)

-- a spelling begins with a one
begins : (tx : Transaction) (bits : List Bool) → SpellsTx tx bits → (back : List Bool) × (bits ≡ true ∷ back)
begins tx bits s = (_, s.3)

idle_read : (n : ℕ) (tx : Transaction) (bits more : List Bool) → SpellsTx tx bits → IsTraceTxAcknowledged tx.result →
    reading Synced (replicate n false ++ (bits ++ more)) ≡ idle_items n ++ (Tx tx ∷ reading Synced more)
idle_read zero tx bits more s k = tx_read tx bits more s k
idle_read (suc n) tx bits more s k =
    let b = begins tx bits s in
    ap (λ x. reading Synced (replicate (suc n) false ++ (x ++ more))) b.1
    ∙ idle_item_before_one (suc n) (b.0 ++ more) (omega arith)
    ∙ ap (λ x. Idle (suc n) ∷ reading Synced (x ++ more)) (sym b.1)
    ∙ ap (λ x. Idle (suc n) ∷ x) (tx_read tx bits more s k)

-- ---- the zeros before it

more_zeros : (m n : ℕ) (x : List Bool) → replicate m false ++ (replicate n false ++ x) ≡ replicate (m + n) false ++ x
more_zeros zero n x = ap (λ k. replicate k false ++ x) (omega arith)
more_zeros (suc m) n x =
    let e : suc m + n ≡ suc (m + n) = omega arith in
    ap (λ y. false ∷ y) (more_zeros m n x) ∙ ap (λ k. replicate k false ++ x) (sym e)

zeros_of : (one : Bool) (run : ℕ) → (0 < run → one ≡ false) → replicate run one ≡ replicate run false
zeros_of one zero h = refl
zeros_of one (suc run) h = ap (replicate (suc run)) (h (omega arith))

-- idle cycles, held and new, and a transaction
pub found_tx_reading : (mode : Mode) (one : Bool) (run len held bits n : ℕ) (tx : Transaction) (spelled : List Bool) →
    mode ≡ Synced → len ≡ 0 → (0 < run → one ≡ false) →
    spelled ≡ low_bits n (bits / 2 ^ count_trailing_zeros 64 bits) → SpellsTx tx spelled
    → IsTraceTxAcknowledged tx.result → (more : List Bool) → reading mode (replicate run one
    ++ (low_bits len held ++ (low_bits (count_trailing_zeros 64 bits + n) bits ++ more)))
    ≡ idle_items (run + count_trailing_zeros 64 bits)
    ++ (Tx tx ∷ reading mode (replicate 0 one ++ (low_bits len held ++ more)))
found_tx_reading mode one run len held bits n tx spelled m l o same s k more =
    let z = count_trailing_zeros 64 bits in
    let none : low_bits len held ≡ [] = decoder_bits_none len held l in
    let within : z ≤ z + n = omega arith in
    let left : z + n - z ≡ n = omega arith in
    let new : low_bits (z + n) bits ≡ replicate z false ++ spelled =
    decoder_bits_parted z (z + n) bits within
    ∙ ap (λ x. x ++ low_bits (z + n - z) (bits / 2 ^ z)) (decoder_zeros_at_front 64 z bits (omega arith))
    ∙ ap (λ j. replicate z false ++ low_bits j (bits / 2 ^ z)) left
    ∙ ap (λ x. replicate z false ++ x) (sym same) in
    ap (λ d. reading d (replicate run one ++ (low_bits len held ++ (low_bits (z + n) bits ++ more)))) m
    ∙ ap (λ x. reading Synced (x ++ (low_bits len held ++ (low_bits (z + n) bits ++ more)))) (zeros_of one run o)
    ∙ ap (λ x. reading Synced (replicate run false ++ (x ++ (low_bits (z + n) bits ++ more)))) none
    ∙ ap (λ x. reading Synced (replicate run false ++ (x ++ more))) new
    ∙ ap (λ x. reading Synced (replicate run false ++ x)) (append_assoc (replicate z false) spelled more)
    ∙ ap (reading Synced) (more_zeros run z (spelled ++ more))
    ∙ idle_read (run + z) tx spelled more s k
    ∙ ap (λ x. idle_items (run + z) ++ (Tx tx ∷ reading Synced (x ++ more))) (sym none)
    ∙ ap (λ d. idle_items (run + z) ++ (Tx tx ∷ reading d (low_bits len held ++ more))) (sym m)

-- bits that come give some items more
pub decoder_items_given : (old new : List Bool → List Item) (bits next : List Bool) (items given : List Item) →
    ((more : List Bool) → old (next ++ more) ≡ given ++ new more) →
    ((more : List Bool) → items ++ old more ≡ reading_of (bits ++ more)) → (more : List Bool) →
    (items ++ given) ++ new more ≡ reading_of ((bits ++ next) ++ more)
decoder_items_given old new bits next items given law h more =
    append_assoc items given (new more) ∙ ap (λ x. items ++ x) (sym (law more)) ∙ h (next ++ more)
    ∙ ap reading_of (sym (append_assoc bits next more))
