-- Laws of finding a transaction at the front of held bits.
use Rattle.std.proofs.Common.{◌≡◌, ◌≢◌, ℕ, zero, suc, ◌+◌, ◌-◌, ◌*◌, ◌/◌, ◌%◌, ◌^◌, ◌<◌, ◌≤◌, Bool, true, false, List}
use Rattle.std.proofs.Common.{[], ◌∷◌, ◌++◌, length, take, nat_le, refl, sym, ap, ◌∙◌, subst, arith, bit_and}
use Rattle.std.specs.Prelude.{◌==◌, count_ones, if◌then◌else◌}
use Rattle.std.proofs.lemmas.List.{length-append, append_assoc, take_at}
use Rattle.std.proofs.lemmas.Nat.{and_mask}
use Rattle.swd_bits.specs.Bits.{low_bits, odd}
use Rattle.swd_bits.specs.Transactions.{SpellsTx}
use Rattle.swd_bits.specs.declared.request.Request.{Request}
use Rattle.swd_bits.specs.declared.tx.Tx.{Tx}
use Rattle.swd_bits.proofs.BitsLemmas.{length-low_bits, odd-low_bits}
use Rattle.swd_trace.specs.Stands.{Whole, Begun, Broken, stands, stand_after_ok, stand_after_request, stand_after_stop}
use Rattle.swd_trace.specs.Stands.{stand_after_parity, stand_reg4_at, stand_moved_in, stand_phase_in, stand_tx_len}
use Rattle.std.proofs.lemmas.Bool.{le-leb, ne_eqb}
use Rattle.swd_trace.proofs.StandLemmas.{trace_len_test_false}
use Rattle.swd_trace.proofs.NumberLemmas.{decoder_bits_next, decoder_bits_mod, decoder_bits_parted, decoder_bits_masked}
use Rattle.swd_trace.proofs.SpellingLemmas.{trace_stand_of_spelled_tx, trace_stand_is_spelled}

-- ---- lists

-- fewer than six bits that begin with a one
pub decoder_front_few_bits : (bits : List Bool) → length bits < 5 → stands (true ∷ bits) ≡ Begun
decoder_front_few_bits [] h = refl
decoder_front_few_bits (a ∷ []) h = refl
decoder_front_few_bits (a ∷ b ∷ []) h = refl
decoder_front_few_bits (a ∷ b ∷ c ∷ []) h = refl
decoder_front_few_bits (a ∷ b ∷ c ∷ d ∷ []) h = refl
decoder_front_few_bits (a ∷ b ∷ c ∷ d ∷ e ∷ bits) h = absurd (omega arith)

-- the request whose bits from the second to the sixth these are
abbrev pub decoder_request_of_five : List Bool → Request
decoder_request_of_five (port ∷ read ∷ a ∷ b ∷ bits) = record { ap = port; read = read; addr = stand_reg4_at a b }
decoder_request_of_five bits = record { ap = false; read = false; addr = stand_reg4_at false false }

pub decoder_parity_wrong : (five rest : List Bool) → length five ≡ 5 → odd five ≡ true
    → stands (true ∷ (five ++ rest)) ≡ Broken
decoder_parity_wrong (a ∷ b ∷ c ∷ d ∷ e ∷ []) rest h o =
    ap (λ t. if t then Broken else stand_after_parity (decoder_request_of_five (a ∷ b ∷ c ∷ d ∷ e ∷ [])) rest) o
decoder_parity_wrong [] rest h o = absurd (omega arith)
decoder_parity_wrong (a ∷ []) rest h o = absurd (omega arith)
decoder_parity_wrong (a ∷ b ∷ []) rest h o = absurd (omega arith)
decoder_parity_wrong (a ∷ b ∷ c ∷ []) rest h o = absurd (omega arith)
decoder_parity_wrong (a ∷ b ∷ c ∷ d ∷ []) rest h o = absurd (omega arith)
decoder_parity_wrong (a ∷ b ∷ c ∷ d ∷ e ∷ f ∷ g) rest h o = absurd (omega arith)

-- after a one, five bits with right parity are a request's, and the bits from the stop bit on decide what is found
pub decoder_parity_right : (five rest : List Bool) → length five ≡ 5 → odd five ≡ false
    → stands (true ∷ (five ++ rest)) ≡ stand_after_parity (decoder_request_of_five five) rest
decoder_parity_right (a ∷ b ∷ c ∷ d ∷ e ∷ []) rest h o =
    ap (λ t. if t then Broken else stand_after_parity (decoder_request_of_five (a ∷ b ∷ c ∷ d ∷ e ∷ [])) rest) o
decoder_parity_right [] rest h o = absurd (omega arith)
decoder_parity_right (a ∷ []) rest h o = absurd (omega arith)
decoder_parity_right (a ∷ b ∷ []) rest h o = absurd (omega arith)
decoder_parity_right (a ∷ b ∷ c ∷ []) rest h o = absurd (omega arith)
decoder_parity_right (a ∷ b ∷ c ∷ d ∷ []) rest h o = absurd (omega arith)
decoder_parity_right (a ∷ b ∷ c ∷ d ∷ e ∷ f ∷ g) rest h o = absurd (omega arith)

-- a request up to its parity bit is the beginning of a transaction
pub decoder_awaits_stop_bit : (q : Request) (bits : List Bool) → length bits < 1 → stand_after_parity q bits ≡ Begun
decoder_awaits_stop_bit q [] h = refl
decoder_awaits_stop_bit q (b ∷ bits) h = absurd (omega arith)

-- a request up to its stop bit is the beginning of a transaction
pub decoder_awaits_park_bit : (q : Request) (bits : List Bool) → length bits < 1 → stand_after_stop q bits ≡ Begun
decoder_awaits_park_bit q [] h = refl
decoder_awaits_park_bit q (b ∷ bits) h = absurd (omega arith)

-- a request and fewer than four bits after it are the beginning of a transaction
pub decoder_awaits_ack : (q : Request) (bits : List Bool) → length bits < 4 → stand_after_request q bits ≡ Begun
decoder_awaits_ack q [] h = refl
decoder_awaits_ack q (a ∷ []) h = refl
decoder_awaits_ack q (a ∷ b ∷ []) h = refl
decoder_awaits_ack q (a ∷ b ∷ c ∷ []) h = refl
decoder_awaits_ack q (a ∷ b ∷ c ∷ d ∷ bits) h = absurd (omega arith)

pub decoder_awaits_data_phase : (q : Request) (bits : List Bool) → length bits < 34 → stand_after_ok q bits ≡ Begun
decoder_awaits_data_phase q bits h = rw (trace_len_test_false 34 (length bits) h) refl

-- ---- numbers

-- the first bit is a one
pub decoder_first_bit_is_one : (len v : ℕ) → 0 < len → v % 2 ≡ 1 → low_bits len v ≡ true ∷ low_bits (len - 1) (v / 2)
decoder_first_bit_is_one len v h e = decoder_bits_next len v h ∙ ap (λ d. (d == 1) ∷ low_bits (len - 1) (v / 2)) e

-- the first bit, five, and the others
pub decoder_first_six_bits : (len v : ℕ) → 6 ≤ len → v % 2 ≡ 1
    → low_bits len v ≡ true ∷ (low_bits 5 (v / 2) ++ low_bits (len - 6) (v / 2 ^ 6))
decoder_first_six_bits len v h e =
    let m : len - 1 - 5 ≡ len - 6 = omega arith in
    let n : v / 2 / 2 ^ 5 ≡ v / 2 ^ 6 = omega arith in
    decoder_first_bit_is_one len v (omega arith) e
    ∙ ap (λ x. true ∷ x) (decoder_bits_parted 5 (len - 1) (v / 2) (omega arith)
    ∙ ap (λ x. low_bits 5 (v / 2) ++ x) (ap (λ k. low_bits k (v / 2 / 2 ^ 5)) m ∙ ap (low_bits (len - 6)) n))

-- the parity of the five bits after the first
pub decoder_parity_by_count : (v : ℕ) → odd (low_bits 5 (v / 2)) ≡ (count_ones (bit_and (v / 2) (2 ^ 5 - 1)) % 2 == 1)
decoder_parity_by_count v =
    let small : v / 2 % 2 ^ 5 < 2 ^ 5 = omega arith in
    ap odd (sym (decoder_bits_mod 5 (v / 2))) ∙ odd-low_bits 5 (v / 2 % 2 ^ 5) small
    ∙ ap (λ n. count_ones n % 2 == 1) (sym (and_mask (v / 2) 5))

-- the bit at a place, and the others
pub decoder_bit_at_place : (k len v : ℕ) → k < len
    → low_bits (len - k) (v / 2 ^ k) ≡ (v / 2 ^ k % 2 == 1) ∷ low_bits (len - (k + 1)) (v / 2 ^ k / 2)
decoder_bit_at_place k len v h =
    let m : len - k - 1 ≡ len - (k + 1) = omega arith in
    decoder_bits_next (len - k) (v / 2 ^ k) (omega arith) ∙ ap (λ n. (v / 2 ^ k % 2 == 1) ∷ low_bits n (v / 2 ^ k / 2))
    m

not_one : (n : ℕ) → n ≢ 1 → (n == 1) ≡ false
not_one n h = ne_eqb n 1 h

-- the request in the bits
abbrev pub decoder_request_in_bits : ℕ → Request
decoder_request_in_bits v = decoder_request_of_five (low_bits 5 (v / 2))

join_six : (len v : ℕ) (more : List Bool) → 6 ≤ len → v % 2 ≡ 1 →
    low_bits len v ++ more ≡ true ∷ (low_bits 5 (v / 2) ++ (low_bits (len - 6) (v / 2 ^ 6) ++ more))
join_six len v more h e =
    ap (λ x. x ++ more) (decoder_first_six_bits len v h e)
    ∙ ap (λ x. true ∷ x) (append_assoc (low_bits 5 (v / 2)) (low_bits (len - 6) (v / 2 ^ 6)) more)

-- a one and then five bits with wrong parity, at the front of the held bits, begin no transaction
pub decoder_parity_bit_broken : (len v : ℕ) → 6 ≤ len → v % 2 ≡ 1 → count_ones (bit_and (v / 2) (2 ^ 5 - 1)) % 2 ≡ 1
    → stands (low_bits len v) ≡ Broken
decoder_parity_bit_broken len v h e p =
    ap stands (decoder_first_six_bits len v h e)
    ∙ decoder_parity_wrong (low_bits 5 (v / 2)) (low_bits (len - 6) (v / 2 ^ 6)) (length-low_bits 5 (v / 2))
    (decoder_parity_by_count v ∙ ap (λ n. n == 1) p)

-- a one and then five bits with right parity at the front: the bits from the seventh on decide what is found
pub decoder_after_six_bits : (len v : ℕ) → 6 ≤ len → v % 2 ≡ 1 → count_ones (bit_and (v / 2) (2 ^ 5 - 1)) % 2 ≢ 1
    → (more : List Bool) →
    stands (low_bits len v ++ more) ≡ stand_after_parity (decoder_request_in_bits v)
    (low_bits (len - 6) (v / 2 ^ 6) ++ more)
decoder_after_six_bits len v h e p more =
    ap stands (join_six len v more h e)
    ∙ decoder_parity_right (low_bits 5 (v / 2)) (low_bits (len - 6) (v / 2 ^ 6) ++ more) (length-low_bits 5 (v / 2))
    (decoder_parity_by_count v ∙ not_one _ p)

-- the seventh bit
seventh : (len v : ℕ) (b : Bool) → 7 ≤ len → (bit_and (v / 2 ^ 6) 1 == 1) ≡ b
    → low_bits (len - 6) (v / 2 ^ 6) ≡ b ∷ low_bits (len - 7) (v / 2 ^ 7)
seventh len v b h e =
    let n : v / 2 ^ 6 / 2 ≡ v / 2 ^ 7 = omega arith in
    let d : v / 2 ^ 6 % 2 ≡ bit_and (v / 2 ^ 6) 1 = sym (and_mask (v / 2 ^ 6) 1) in
    decoder_bit_at_place 6 len v h ∙ ap (λ x. (x == 1) ∷ low_bits (len - 7) (v / 2 ^ 6 / 2)) d
    ∙ ap (λ x. x ∷ low_bits (len - 7) (v / 2 ^ 6 / 2)) e ∙ ap (λ x. b ∷ low_bits (len - 7) x) n

eighth : (len v : ℕ) (b : Bool) → 8 ≤ len → (bit_and (v / 2 ^ 7) 1 == 1) ≡ b
    → low_bits (len - 7) (v / 2 ^ 7) ≡ b ∷ low_bits (len - 8) (v / 2 ^ 8)
eighth len v b h e =
    let n : v / 2 ^ 7 / 2 ≡ v / 2 ^ 8 = omega arith in
    let d : v / 2 ^ 7 % 2 ≡ bit_and (v / 2 ^ 7) 1 = sym (and_mask (v / 2 ^ 7) 1) in
    decoder_bit_at_place 7 len v h ∙ ap (λ x. (x == 1) ∷ low_bits (len - 8) (v / 2 ^ 7 / 2)) d
    ∙ ap (λ x. x ∷ low_bits (len - 8) (v / 2 ^ 7 / 2)) e ∙ ap (λ x. b ∷ low_bits (len - 8) x) n

append_none : (bits : List Bool) → bits ++ [] ≡ bits
append_none [] = refl
append_none (b ∷ bits) = ap (λ x. b ∷ x) (append_none bits)

-- no transaction has a seventh bit, the stop bit, that is 1
pub decoder_stop_bit_broken : (len v : ℕ) → 7 ≤ len
    → ((more : List Bool) → stands (low_bits len v ++ more) ≡ stand_after_parity (decoder_request_in_bits v)
    (low_bits (len - 6) (v / 2 ^ 6) ++ more)) →
    bit_and (v / 2 ^ 6) 1 ≡ 1 → stands (low_bits len v) ≡ Broken
decoder_stop_bit_broken len v h law e =
    ap stands (sym (append_none (low_bits len v))) ∙ law []
    ∙ ap (λ x. stand_after_parity (decoder_request_in_bits v) (x ++ [])) (seventh len v true h (ap (λ n. n == 1) e))

-- where the seventh bit, the stop bit, is 0, the bits from the eighth on decide what is found
pub decoder_after_stop_bit : (len v : ℕ) → 7 ≤ len
    → ((more : List Bool) → stands (low_bits len v ++ more) ≡ stand_after_parity (decoder_request_in_bits v)
    (low_bits (len - 6) (v / 2 ^ 6) ++ more)) →
    bit_and (v / 2 ^ 6) 1 ≢ 1 → (more : List Bool)
    → stands (low_bits len v ++ more) ≡ stand_after_stop (decoder_request_in_bits v)
    (low_bits (len - 7) (v / 2 ^ 7) ++ more)
decoder_after_stop_bit len v h law e more = law more
    ∙ ap (λ x. stand_after_parity (decoder_request_in_bits v) (x ++ more)) (seventh len v false h (not_one _ e))

-- no transaction has an eighth bit, the park bit, that is 0
pub decoder_park_bit_broken : (len v : ℕ) → 8 ≤ len
    → ((more : List Bool) → stands (low_bits len v ++ more) ≡ stand_after_stop (decoder_request_in_bits v)
    (low_bits (len - 7) (v / 2 ^ 7) ++ more)) →
    bit_and (v / 2 ^ 7) 1 ≡ 0 → stands (low_bits len v) ≡ Broken
decoder_park_bit_broken len v h law e =
    ap stands (sym (append_none (low_bits len v))) ∙ law []
    ∙ ap (λ x. stand_after_stop (decoder_request_in_bits v) (x ++ [])) (eighth len v false h (ap (λ n. n == 1) e))

-- where the eighth bit, the park bit, is 1, the request is whole, and the bits after it decide what is found
pub decoder_after_park_bit : (len v : ℕ) → 8 ≤ len
    → ((more : List Bool) → stands (low_bits len v ++ more) ≡ stand_after_stop (decoder_request_in_bits v)
    (low_bits (len - 7) (v / 2 ^ 7) ++ more)) →
    bit_and (v / 2 ^ 7) 1 ≢ 0 → (more : List Bool)
    → stands (low_bits len v ++ more) ≡ stand_after_request (decoder_request_in_bits v)
    (low_bits (len - 8) (v / 2 ^ 8) ++ more)
decoder_after_park_bit len v h law e more =
    let d : bit_and (v / 2 ^ 7) 1 ≡ v / 2 ^ 7 % 2 = and_mask (v / 2 ^ 7) 1 in
    let one : bit_and (v / 2 ^ 7) 1 ≡ 1 = not_zero (bit_and (v / 2 ^ 7) 1) (omega arith) e in
    law more ∙ ap (λ x. stand_after_stop (decoder_request_in_bits v) (x ++ more))
    (eighth len v true h (ap (λ n. n == 1) one))
  where
    not_zero : (n : ℕ) → n < 2 → n ≢ 0 → n ≡ 1
    not_zero zero h k = absurd (k refl)
    not_zero (suc zero) h k = refl
    not_zero (suc (suc n)) h k = absurd (omega arith)

-- len - k bits of a number, followed by other bits, are as many as both together
pub decoder_bits_left_length : (k len v : ℕ) (more : List Bool)
    → length (low_bits (len - k) v ++ more) ≡ len - k + length more
decoder_bits_left_length k len v more = length-append (low_bits (len - k) v) more
    ∙ ap (λ n. n + length more) (length-low_bits (len - k) v)

-- ---- the acknowledgement

-- a transaction has at least twelve bits, whatever its ACK
pub decoder_tx_len_least : (n : ℕ) → 12 ≤ stand_tx_len n
decoder_tx_len_least zero = omega arith
decoder_tx_len_least (suc zero) = omega arith
decoder_tx_len_least (suc (suc zero)) = omega arith
decoder_tx_len_least (suc (suc (suc zero))) = omega arith
decoder_tx_len_least (suc (suc (suc (suc zero)))) = omega arith
decoder_tx_len_least (suc (suc (suc (suc (suc n))))) = omega arith

-- a transaction has at most 46 bits, whatever its ACK
pub decoder_tx_len_most : (n : ℕ) → stand_tx_len n ≤ 46
decoder_tx_len_most zero = omega arith
decoder_tx_len_most (suc zero) = omega arith
decoder_tx_len_most (suc (suc zero)) = omega arith
decoder_tx_len_most (suc (suc (suc zero))) = omega arith
decoder_tx_len_most (suc (suc (suc (suc zero)))) = omega arith
decoder_tx_len_most (suc (suc (suc (suc (suc n))))) = omega arith

pub decoder_tx_incomplete : (q : Request) (t : Bool) (n : ℕ) (bits : List Bool) → n < 8
    → 12 + length bits < stand_tx_len n → stand_after_request q (t ∷ (low_bits 3 n ++ bits)) ≡ Begun
unfolding low_bits
decoder_tx_incomplete q t zero bits h k = absurd (omega arith)
decoder_tx_incomplete q t (suc zero) bits h k = decoder_awaits_data_phase q bits (omega arith)
decoder_tx_incomplete q t (suc (suc zero)) [] h k = refl
decoder_tx_incomplete q t (suc (suc zero)) (b ∷ bits) h k = absurd (omega arith)
decoder_tx_incomplete q t (suc (suc (suc zero))) bits h k = absurd (omega arith)
decoder_tx_incomplete q t (suc (suc (suc (suc zero)))) [] h k = refl
decoder_tx_incomplete q t (suc (suc (suc (suc zero)))) (b ∷ bits) h k = absurd (omega arith)
decoder_tx_incomplete q t (suc (suc (suc (suc (suc n))))) bits h k = absurd (omega arith)

-- a transaction of that length
pub decoder_tx_whole_at_len : (q : Request) (t : Bool) (n : ℕ) (bits : List Bool) → n < 8
    → stand_tx_len n ≤ 12 + length bits → (tx : Tx)
    × (stand_after_request q (t ∷ (low_bits 3 n ++ bits)) ≡ Whole tx (stand_tx_len n))
unfolding low_bits
decoder_tx_whole_at_len q t zero bits h k = (_, refl)
decoder_tx_whole_at_len q t (suc zero) bits h k = (
  _,
  (let e : nat_le 34 (length bits) ≡ true = le-leb 34 (length bits) (omega arith) in
      ap (λ t. if t then Whole (record { request = q; result = stand_moved_in (stand_phase_in q.read bits) }) 46 else
      Begun) e),
)
decoder_tx_whole_at_len q t (suc (suc zero)) [] h k = absurd (omega arith)
decoder_tx_whole_at_len q t (suc (suc zero)) (b ∷ bits) h k = (_, refl)
decoder_tx_whole_at_len q t (suc (suc (suc zero))) bits h k = (_, refl)
decoder_tx_whole_at_len q t (suc (suc (suc (suc zero)))) [] h k = absurd (omega arith)
decoder_tx_whole_at_len q t (suc (suc (suc (suc zero)))) (b ∷ bits) h k = (_, refl)
decoder_tx_whole_at_len q t (suc (suc (suc (suc (suc zero))))) bits h k = (_, refl)
decoder_tx_whole_at_len q t (suc (suc (suc (suc (suc (suc zero)))))) bits h k = (_, refl)
decoder_tx_whole_at_len q t (suc (suc (suc (suc (suc (suc (suc zero))))))) bits h k = (_, refl)
decoder_tx_whole_at_len q t (suc (suc (suc (suc (suc (suc (suc (suc n)))))))) bits h k = absurd (omega arith)

-- the bits after a request: a turnaround, the acknowledgement and the others
pub decoder_ack_in_bits : (len v : ℕ) (more : List Bool) → 12 ≤ len →
    low_bits (len - 8) (v / 2 ^ 8)
    ++ more ≡ (v / 2 ^ 8 % 2 == 1) ∷
    (low_bits 3 (bit_and (v / 2 ^ 9) (2 ^ 3 - 1)) ++ (low_bits (len - 12) (v / 2 ^ 12) ++ more))
decoder_ack_in_bits len v more h =
    let m : len - (8 + 1) - 3 ≡ len - 12 = omega arith in
    let n : v / 2 ^ 8 / 2 ≡ v / 2 ^ 9 = omega arith in
    let o : v / 2 ^ 8 / 2 / 2 ^ 3 ≡ v / 2 ^ 12 = omega arith in
    let three : low_bits 3 (v / 2 ^ 8 / 2) ≡ low_bits 3 (bit_and (v / 2 ^ 9) (2 ^ 3 - 1)) =
    ap (low_bits 3) n ∙ sym (decoder_bits_mod 3 (v / 2 ^ 9)) ∙ ap (low_bits 3) (sym (and_mask (v / 2 ^ 9) 3)) in
    let others : low_bits (len - (8 + 1) - 3) (v / 2 ^ 8 / 2 / 2 ^ 3) ≡ low_bits (len - 12) (v / 2 ^ 12) =
    ap (λ k. low_bits k (v / 2 ^ 8 / 2 / 2 ^ 3)) m ∙ ap (low_bits (len - 12)) o in
    ap (λ x. x ++ more) (decoder_bit_at_place 8 len v (omega arith))
    ∙ ap (λ x. (v / 2 ^ 8 % 2 == 1) ∷ (x ++ more)) (decoder_bits_parted 3 (len - (8 + 1)) (v / 2 ^ 8 / 2) (omega arith))
    ∙ ap (λ x. (v / 2 ^ 8 % 2 == 1) ∷ x)
    (append_assoc (low_bits 3 (v / 2 ^ 8 / 2)) (low_bits (len - (8 + 1) - 3) (v / 2 ^ 8 / 2 / 2 ^ 3)) more)
    ∙ ap (λ x. (v / 2 ^ 8 % 2 == 1) ∷ (x ++ (low_bits (len - (8 + 1) - 3) (v / 2 ^ 8 / 2 / 2 ^ 3) ++ more))) three
    ∙ ap (λ x. (v / 2 ^ 8 % 2 == 1) ∷ (low_bits 3 (bit_and (v / 2 ^ 9) (2 ^ 3 - 1)) ++ (x ++ more))) others

-- the three ACK bits of a transaction at the front of these bits, as a number
abbrev pub decoder_ack_number : ℕ → ℕ
decoder_ack_number v = bit_and (v / 2 ^ 9) (2 ^ 3 - 1)

pub decoder_ack_below_8 : (v : ℕ) → decoder_ack_number v < 8
decoder_ack_below_8 v = let e : decoder_ack_number v ≡ v / 2 ^ 9 % 2 ^ 3 = and_mask (v / 2 ^ 9) 3 in omega arith

-- what stands after a request, by its bits
abbrev pub DecoderAfterRequest : Request → ℕ → ℕ → Type 0
DecoderAfterRequest q len v = (more : List Bool)
    → stands (low_bits len v ++ more) ≡ stand_after_request q (low_bits (len - 8) (v / 2 ^ 8) ++ more)

-- after a request and its ACK, fewer bits than that ACK calls for are the beginning of a transaction
pub decoder_tx_begun_by_len : (q : Request) (len v : ℕ) → DecoderAfterRequest q len v → 12 ≤ len → (more : List Bool)
    → len + length more < stand_tx_len (decoder_ack_number v) → stands (low_bits len v ++ more) ≡ Begun
decoder_tx_begun_by_len q len v law h more k =
    let l : length (low_bits (len - 12) (v / 2 ^ 12) ++ more) ≡ len - 12 + length more = decoder_bits_left_length 12 len
    (v / 2 ^ 12) more in
    law more ∙ ap (stand_after_request q) (decoder_ack_in_bits len v more h)
    ∙ decoder_tx_incomplete q (v / 2 ^ 8 % 2 == 1) (decoder_ack_number v) (low_bits (len - 12) (v / 2 ^ 12) ++ more)
    (decoder_ack_below_8 v) (omega arith)

-- after a request and its ACK, as many bits as that ACK calls for, or more, begin with a whole transaction
pub decoder_tx_whole_by_len : (q : Request) (len v : ℕ) → DecoderAfterRequest q len v → 12 ≤ len
    → stand_tx_len (decoder_ack_number v) ≤ len → (tx : Tx)
    × (stands (low_bits len v) ≡ Whole tx (stand_tx_len (decoder_ack_number v)))
decoder_tx_whole_by_len q len v law h k =
    let l : length (low_bits (len - 12) (v / 2 ^ 12) ++ []) ≡ len - 12 + length {A = Bool} [] =
    decoder_bits_left_length 12 len (v / 2 ^ 12) [] in
    let r = decoder_tx_whole_at_len q (v / 2 ^ 8 % 2 == 1) (decoder_ack_number v)
    (low_bits (len - 12) (v / 2 ^ 12) ++ []) (decoder_ack_below_8 v) (omega arith) in (
      r.0,
      ap stands (sym (append_none (low_bits len v))) ∙ law [] ∙ ap (stand_after_request q)
          (decoder_ack_in_bits len v [] h) ∙ r.1,
    )

-- the first bits spell what stands
pub decoder_finds_spelled_tx : (len v n : ℕ) (tx : Tx) → n ≤ len → n < 64
    → SpellsTx tx (low_bits n (bit_and v (1 * 2 ^ n % 2 ^ 64 - 1))) → stands (low_bits len v) ≡ Whole tx n
decoder_finds_spelled_tx len v n tx h k p =
    let same : low_bits n (bit_and v (1 * 2 ^ n % 2 ^ 64 - 1)) ≡ low_bits n v =
    ap (low_bits n) (decoder_bits_masked n v k) ∙ decoder_bits_mod n v in
    let q : SpellsTx tx (low_bits n v) = subst (SpellsTx tx) same p in
    ap stands (decoder_bits_parted n len v h) ∙ trace_stand_of_spelled_tx tx (low_bits n v)
    (low_bits (len - n) (v / 2 ^ n)) q ∙ ap (Whole tx) (length-low_bits n v)

-- where a whole transaction is at the front of a number's bits, the bits masked to its length spell it
pub decoder_found_tx_spelled : (len v n : ℕ) (tx : Tx) → n ≤ len → n < 64 → stands (low_bits len v) ≡ Whole tx n
    → SpellsTx tx (low_bits n (bit_and v (1 * 2 ^ n % 2 ^ 64 - 1)))
decoder_found_tx_spelled len v n tx h k e =
    let same : low_bits n (bit_and v (1 * 2 ^ n % 2 ^ 64 - 1)) ≡ low_bits n v =
    ap (low_bits n) (decoder_bits_masked n v k) ∙ decoder_bits_mod n v in
    let front : take n (low_bits len v) ≡ low_bits n v =
    ap (take n) (decoder_bits_parted n len v h) ∙ take_at (low_bits n v) (low_bits (len - n) (v / 2 ^ n)) n
    (length-low_bits n v) in
    subst (SpellsTx tx) (front ∙ sym same) (trace_stand_is_spelled (low_bits len v) tx n e)
