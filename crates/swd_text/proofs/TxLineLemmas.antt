-- The line of a transaction, by the number that holds its bits.
use Rattle.std.proofs.Common.{◌≡◌, ℕ, zero, suc, ◌+◌, ◌-◌, ◌/◌, ◌%◌, ◌^◌, ◌<◌, ◌≤◌, Bool, true, false, not, List, []}
use Rattle.std.proofs.Common.{◌∷◌, ◌++◌, ◌&&◌, T, eqb, eqb→eq, length, take, get_or, nat_le, count_ones, refl, sym, ap}
use Rattle.std.proofs.Common.{◌∙◌, append_assoc, take_all, arith}
use Rattle.std.specs.Prelude.{◌==◌, if◌then◌else◌}
use Rattle.std.proofs.lemmas.List.{take_at, append-nil}
use lib.Ieee.Fits.{and_l, and_r}
use Rattle.swd_bits.specs.Bits.{low_bits, bits_number, odd}
use Rattle.swd_bits.specs.Wire.{request_reg4_of}
use Rattle.swd_bits.specs.Transactions.{SpellsTx}
use Rattle.swd_bits.specs.Listing.{tx_hex_digit, hex2, hex8, tx_line_parity, tx_line, tx_line_outcome}
use Rattle.swd_bits.specs.declared.request.Request.{Request}
use Rattle.swd_bits.specs.declared.tx.TxEnd.{TxEnd}
use Rattle.swd_bits.specs.declared.tx.TxEnd.TheVariants.{Moved, Wait, Fault, NoAck}
use Rattle.swd_bits.specs.declared.tx.Tx.{Tx}
use Rattle.swd_bits.proofs.BitsLemmas.{number-low_bits, length-low_bits, odd-low_bits}
use Rattle.swd_trace.specs.Stands.{Stand, Whole, Begun, Broken, stands, stand_after_parity, stand_after_ack}
use Rattle.swd_trace.specs.Stands.{stand_reg4_at, stand_moved_in, stand_phase_in}
use Rattle.swd_trace.proofs.NumberLemmas.{decoder_bits_parted, decoder_bits_mod}
use Rattle.swd_trace.proofs.SpellingLemmas.{trace_stand_of_spelled_tx, trace_tx_len, trace_spelling_length}
use Rattle.swd_text.specs.TxLines.{tx_line_request_at, tx_line_request_text}
use Rattle.swd_text.specs.declared.tx_line.TheConstants.{DIGITS}

-- ---- the tables

-- these are the two digits of a byte
abbrev are_digits : List ℕ → ℕ → Bool
are_digits (x ∷ y ∷ []) byte = eqb x (tx_hex_digit (byte / 16)) && eqb y (tx_hex_digit (byte % 16))
are_digits other byte = false

digits_are : (pair : List ℕ) (byte : ℕ) → T (are_digits pair byte) → pair ≡ hex2 byte
unfolding hex2
digits_are [] byte t = elim t [ ]
digits_are (x ∷ []) byte t = elim t [ ]
digits_are (x ∷ y ∷ []) byte t =
    ap (λ x. x ∷ y ∷ []) (eqb→eq x (tx_hex_digit (byte / 16)) (and_l _ _ t))
    ∙ ap (λ y. tx_hex_digit (byte / 16) ∷ y ∷ []) (eqb→eq y (tx_hex_digit (byte % 16)) (and_r _ _ t))
digits_are (x ∷ y ∷ z ∷ pair) byte t = elim t [ ]

-- the pairs of a table are the digits of the bytes from one on
abbrev hold_digits : List (List ℕ) → ℕ → Bool
hold_digits [] first = true
hold_digits (pair ∷ pairs) first = are_digits pair first && hold_digits pairs (suc first)

digits_in : (pairs : List (List ℕ)) (first place : ℕ) (other : List ℕ) → T (hold_digits pairs first) →
    place < length pairs → get_or pairs place other ≡ hex2 (place + first)
digits_in [] first place other t h = absurd (omega arith)
digits_in (pair ∷ pairs) first zero other t h =
    digits_are pair first (and_l _ _ t) ∙ ap hex2 (omega arith)
digits_in (pair ∷ pairs) first (suc place) other t h =
    digits_in pairs (suc first) place other (and_r (are_digits pair first) _ t) (omega arith) ∙ ap hex2 (omega arith)

-- what the table holds at a byte
pub tx_line_byte_digits : (byte : ℕ) (other : List ℕ) → byte < 256 → get_or DIGITS byte other ≡ hex2 byte
tx_line_byte_digits byte other h = digits_in DIGITS 0 byte other tt h ∙ ap hex2 (omega arith)

-- ---- the transaction in some bits

abbrev end_at : Bool → Bool → Bool → Bool → List Bool → TxEnd
end_at true false false read back = stand_moved_in (stand_phase_in read back)
end_at false true false read back = Wait
end_at false false true read back = Fault
end_at a b c read back = NoAck (bits_number (a ∷ b ∷ c ∷ []))

abbrev tx_at : Request → Bool → Bool → Bool → List Bool → Tx
tx_at q x y z back = record { request = q; result = end_at x y z q.read back }

long_enough : (b : Bool) (one tx : Tx) (n : ℕ) → (if b then Whole one 46 else Begun) ≡ Whole tx n → one ≡ tx
long_enough true one tx n e = cc
long_enough false one tx n e = absurd cc

after_acknowledgement : (q : Request) (x y z : Bool) (back : List Bool) (tx : Tx) (n : ℕ) →
    stand_after_ack q x y z back ≡ Whole tx n → tx_at q x y z back ≡ tx
after_acknowledgement q true false false back tx n e = long_enough (nat_le 34 (length back)) _ tx n e
after_acknowledgement q false true false [] tx n e = absurd cc
after_acknowledgement q false true false (u ∷ back) tx n e = cc
after_acknowledgement q false false true [] tx n e = absurd cc
after_acknowledgement q false false true (u ∷ back) tx n e = cc
after_acknowledgement q true true true back tx n e = cc
after_acknowledgement q true true false back tx n e = cc
after_acknowledgement q true false true back tx n e = cc
after_acknowledgement q false true true back tx n e = cc
after_acknowledgement q false false false back tx n e = cc

after_request_bits : (q : Request) (s k t x y z : Bool) (back : List Bool) (tx : Tx) (n : ℕ) →
    stand_after_parity q (s ∷ k ∷ t ∷ x ∷ y ∷ z ∷ back) ≡ Whole tx n → tx_at q x y z back ≡ tx
after_request_bits q true k t x y z back tx n e = absurd cc
after_request_bits q false false t x y z back tx n e = absurd cc
after_request_bits q false true t x y z back tx n e = after_acknowledgement q x y z back tx n e

not_broken : (b : Bool) (one two : Stand) → (if b then Broken else one) ≡ two → (Broken ≡ two → ⊥) → one ≡ two
not_broken true one two e h = absurd (h e)
not_broken false one two e h = e

tx_in_bits : (first ap read a b p s k t x y z : Bool) (back : List Bool) (tx : Tx) (n : ℕ) →
    stands (first ∷ ap ∷ read ∷ a ∷ b ∷ p ∷ s ∷ k ∷ t ∷ x ∷ y ∷ z ∷ back) ≡ Whole tx n →
    tx_at (record { ap = ap; read = read; addr = stand_reg4_at a b }) x y z back ≡ tx
tx_in_bits false ap read a b p s k t x y z back tx n e = absurd cc
tx_in_bits true ap read a b p s k t x y z back tx n e =
    after_request_bits (record { ap = ap; read = read; addr = stand_reg4_at a b }) s k t x y z back tx n
    (not_broken (odd (ap ∷ read ∷ a ∷ b ∷ p ∷ [])) _ _ e (λ h. cc))

-- ---- the request in a number

register : (n : ℕ) (a b : ℕ) → n < 4 → a ≡ n % 2 → b ≡ n / 2 → stand_reg4_at (a == 1) (b == 1) ≡ request_reg4_of n
register zero a b h e f = rw (e, f) refl
register (suc zero) a b h e f = rw (e, f) refl
register (suc (suc zero)) a b h e f = rw (e, f) refl
register (suc (suc (suc zero))) a b h e f = rw (e, f) refl
register (suc (suc (suc (suc n)))) a b h e f = absurd (omega arith)

abbrev request_in : ℕ → Request
request_in v = record {
  ap = v / 2 % 2 == 1;
  read = v / 2 / 2 % 2 == 1;
  addr = stand_reg4_at (v / 2 / 2 / 2 % 2 == 1) (v / 2 / 2 / 2 / 2 % 2 == 1);
}

asked_in : (v asked : ℕ) → asked ≡ v / 2 % 16 → request_in v ≡ tx_line_request_at asked
asked_in v asked e =
    let port : v / 2 % 2 ≡ asked % 2 = omega arith in
    let read : v / 2 / 2 % 2 ≡ asked / 2 % 2 = omega arith in
    let a : v / 2 / 2 / 2 % 2 ≡ asked / 4 % 2 = omega arith in
    let b : v / 2 / 2 / 2 / 2 % 2 ≡ asked / 4 / 2 = omega arith in
    let addr = register (asked / 4) _ _ (omega arith) a b in
    rw (port, read, addr) refl

-- the bits after the acknowledgement
abbrev back_of : ℕ → ℕ → List Bool
back_of n v = low_bits (n - 12) (v / 2 ^ 12)

-- the transaction, by its number
tx_by_number : (n v : ℕ) (tx : Tx) → 12 ≤ n → SpellsTx tx (low_bits n v) →
    tx_at (request_in v) (v / 2 / 2 / 2 / 2 / 2 / 2 / 2 / 2 / 2 % 2 == 1)
    (v / 2 / 2 / 2 / 2 / 2 / 2 / 2 / 2 / 2 / 2 % 2 == 1)
    (v / 2 / 2 / 2 / 2 / 2 / 2 / 2 / 2 / 2 / 2 / 2 % 2 == 1) (back_of n v) ≡ tx
unfolding low_bits
tx_by_number n v tx h s =
    let e : low_bits n v ≡ low_bits 12 v ++ back_of n v = decoder_bits_parted 12 n v h in
    let w : stands (low_bits n v) ≡ Whole tx (length (low_bits n v)) =
    ap stands (sym (append-nil (low_bits n v))) ∙ trace_stand_of_spelled_tx tx (low_bits n v) [] s in
    tx_in_bits (v % 2 == 1) _ _ _ _ _ _ _ _ _ _ _ (back_of n v) tx (length (low_bits n v)) (ap stands (sym e) ∙ w)

-- how long it is
length_by_number : (n v : ℕ) (tx : Tx) → SpellsTx tx (low_bits n v) → trace_tx_len tx.result ≡ n
length_by_number n v tx s = sym (trace_spelling_length tx s.1 s.2) ∙ sym (ap length s.3) ∙ length-low_bits n v

moved_end : (x y z read : Bool) (back : List Bool) → trace_tx_len (end_at x y z read back) ≡ 46 →
    end_at x y z read back ≡ stand_moved_in (stand_phase_in read back)
moved_end true false false read back h = refl
moved_end false true false read back h = absurd (omega arith)
moved_end false false true read back h = absurd (omega arith)
moved_end true true true read back h = absurd (omega arith)
moved_end true true false read back h = absurd (omega arith)
moved_end true false true read back h = absurd (omega arith)
moved_end false true true read back h = absurd (omega arith)
moved_end false false false read back h = absurd (omega arith)

refused_end : (x y z read : Bool) (back : List Bool) → trace_tx_len (end_at x y z read back) ≡ 13 →
    end_at x y z read back ≡ (if y then Wait else Fault)
refused_end true false false read back h = absurd (omega arith)
refused_end false true false read back h = refl
refused_end false false true read back h = refl
refused_end true true true read back h = absurd (omega arith)
refused_end true true false read back h = absurd (omega arith)
refused_end true false true read back h = absurd (omega arith)
refused_end false true true read back h = absurd (omega arith)
refused_end false false false read back h = absurd (omega arith)

-- ---- the data phase in a number

phase_at : (read : ℕ) (v phase : ℕ) → read < 2 → phase ≡ v / 2 ^ (13 - read) % 2 ^ 33 →
    stand_phase_in (read == 1) (back_of 46 v) ≡ low_bits 33 phase
unfolding low_bits
phase_at zero v phase h e =
    let one : v / 2 ^ 12 / 2 ≡ v / 2 ^ 13 = omega arith in
    take_all 33 (low_bits 33 (v / 2 ^ 12 / 2)) (omega (arith, length-low_bits 33 (v / 2 ^ 12 / 2)))
    ∙ ap (low_bits 33) one ∙ sym (decoder_bits_mod 33 (v / 2 ^ 13)) ∙ ap (low_bits 33) (sym e)
phase_at (suc zero) v phase h e =
    ap (take 33) (decoder_bits_parted 33 34 (v / 2 ^ 12) (omega arith))
    ∙ take_at (low_bits 33 (v / 2 ^ 12)) (low_bits 1 (v / 2 ^ 12 / 2 ^ 33)) 33 (length-low_bits 33 (v / 2 ^ 12))
    ∙ sym (decoder_bits_mod 33 (v / 2 ^ 12)) ∙ ap (low_bits 33) (sym e)
phase_at (suc (suc read)) v phase h e = absurd (omega arith)

not_one : (n : ℕ) → n < 2 → not (n == 1) ≡ (n == 0)
not_one zero h = refl
not_one (suc zero) h = refl
not_one (suc (suc n)) h = absurd (omega arith)

abbrev moved_by : ℕ → Bool → TxEnd
moved_by word ok = Moved word ok

moved_at : (phase : ℕ) → phase < 2 ^ 33 →
    stand_moved_in (low_bits 33 phase) ≡ Moved (phase % 2 ^ 32) (count_ones phase % 2 == 0)
moved_at phase h =
    let front : take 32 (low_bits 33 phase) ≡ low_bits 32 (phase % 2 ^ 32) =
    ap (take 32) (decoder_bits_parted 32 33 phase (omega arith))
    ∙ take_at (low_bits 32 phase) (low_bits 1 (phase / 2 ^ 32)) 32 (length-low_bits 32 phase)
    ∙ sym (decoder_bits_mod 32 phase) in
    let word : bits_number (take 32 (low_bits 33 phase)) ≡ phase % 2 ^ 32 = ap bits_number front
    ∙ number-low_bits 32 (phase % 2 ^ 32) (omega arith) in
    let right : not (odd (low_bits 33 phase)) ≡ (count_ones phase % 2 == 0) = ap not (odd-low_bits 33 phase h)
    ∙ not_one (count_ones phase % 2) (omega arith) in
    ap (λ w. moved_by w (not (odd (low_bits 33 phase)))) word ∙ ap (moved_by (phase % 2 ^ 32)) right

-- ---- lines

abbrev tx_of : Request → TxEnd → Tx
tx_of q end = record { request = q; result = end }

line_of_parts : (q : Request) (end : TxEnd) (text : List ℕ) →
    tx_line_request_text q ++ (tx_line_outcome end ++ text) ≡ tx_line (record { request = q; result = end }) ++ text
line_of_parts q end text = simp append_assoc

-- the line of a transaction that moved a word
pub tx_line_of_moved : (v : ℕ) (tx : Tx) (asked phase : ℕ) → SpellsTx tx (low_bits 46 v) → asked ≡ v / 2 % 16 →
    phase ≡ v / 2 ^ (13 - asked / 2 % 2) % 2 ^ 33 → tx_line_request_text (tx_line_request_at asked)
    ++ (tx_line_parity (count_ones phase % 2 == 0) ++ (hex8 (phase % 2 ^ 32) ++ 10 ∷ []))
    ≡ tx_line tx ++ 10 ∷ []
tx_line_of_moved v tx asked phase s e f =
    let found = tx_by_number 46 v tx (omega arith) s in
    let end = moved_end _ _ _ (request_in v).read (back_of 46 v)
    (ap (λ t. trace_tx_len t.result) found ∙ length_by_number 46 v tx s) in
    let q : request_in v ≡ tx_line_request_at asked = asked_in v asked e in
    let small : v / 2 ^ (13 - asked / 2 % 2) % 2 ^ 33 < 2 ^ 33 = omega arith in
    let moved : stand_moved_in (stand_phase_in (tx_line_request_at asked).read (back_of 46 v))
    ≡ Moved (phase % 2 ^ 32) (count_ones phase % 2 == 0) =
    ap stand_moved_in (phase_at (asked / 2 % 2) v phase (omega arith) f) ∙ moved_at phase (omega arith) in
    let whole : record {
      request = tx_line_request_at asked;
      result = Moved (phase % 2 ^ 32) (count_ones phase % 2 == 0);
    } ≡ tx =
    ap (λ r. tx_of (tx_line_request_at asked) r) (sym moved)
    ∙ ap (λ q. tx_of q (stand_moved_in (stand_phase_in q.read (back_of 46 v)))) (sym q)
    ∙ ap (λ r. tx_of (request_in v) r) (sym end) ∙ found in
    ap (λ x. tx_line_request_text (tx_line_request_at asked) ++ x)
    (sym (append_assoc (tx_line_parity (count_ones phase % 2 == 0)) (hex8 (phase % 2 ^ 32)) (10 ∷ [])))
    ∙ line_of_parts (tx_line_request_at asked) (Moved (phase % 2 ^ 32) (count_ones phase % 2 == 0)) (10 ∷ [])
    ∙ ap (λ t. tx_line t ++ 10 ∷ []) whole

-- the line of a transaction that was answered WAIT or FAULT
pub tx_line_of_refused : (v : ℕ) (tx : Tx) (asked wait : ℕ) → SpellsTx tx (low_bits 13 v) → asked ≡ v / 2 % 16 →
    wait ≡ v / 2 ^ 10 % 2 →
    tx_line_request_text (tx_line_request_at asked) ++ (tx_line_outcome (if wait == 1 then Wait else Fault) ++ 10 ∷ [])
    ≡ tx_line tx ++ 10 ∷ []
tx_line_of_refused v tx asked wait s e f =
    let found = tx_by_number 13 v tx (omega arith) s in
    let end = refused_end _ _ _ (request_in v).read (back_of 13 v)
    (ap (λ t. trace_tx_len t.result) found ∙ length_by_number 13 v tx s) in
    let q : request_in v ≡ tx_line_request_at asked = asked_in v asked e in
    let y : v / 2 / 2 / 2 / 2 / 2 / 2 / 2 / 2 / 2 / 2 % 2 ≡ wait = omega arith in
    let whole : record { request = tx_line_request_at asked; result = if wait == 1 then Wait else Fault } ≡ tx =
    ap (λ w. tx_of (tx_line_request_at asked) (if w == 1 then Wait else Fault)) (sym y)
    ∙ ap (λ q. tx_of q (if v / 2 / 2 / 2 / 2 / 2 / 2 / 2 / 2 / 2 / 2 % 2 == 1 then Wait else Fault)) (sym q)
    ∙ ap (λ r. tx_of (request_in v) r) (sym end) ∙ found in
    line_of_parts (tx_line_request_at asked) (if wait == 1 then Wait else Fault) (10 ∷ [])
    ∙ ap (λ t. tx_line t ++ 10 ∷ []) whole

-- three pieces of a line
pub tx_line_joined : (a b c x y z : List ℕ) → a ≡ x → b ≡ y → c ≡ z → a ++ (b ++ c) ≡ x ++ (y ++ z)
tx_line_joined a b c x y z e f g = cc

-- two pieces of a line, after what was there
pub tx_line_appended : (all a b x text : List ℕ) → a ≡ x → x ++ b ≡ text → (all ++ a) ++ b ≡ all ++ text
tx_line_appended all a b x text e f = append_assoc all a b ∙ ap (λ y. all ++ y) (ap (λ y. y ++ b) e ∙ f)
