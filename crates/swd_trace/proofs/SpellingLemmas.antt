-- What stands at the front of some bits is a spelling of a transaction, or the beginning of one.
use Rattle.std.proofs.Common.{◌≡◌, ℕ, zero, suc, ◌+◌, ◌^◌, ◌<◌, ◌≤◌, Bool, true, false, not, List, [], ◌∷◌, ◌++◌}
use Rattle.std.proofs.Common.{length, take, nat_le, append_assoc, refl, sym, ap, ◌∙◌, subst, arith, inl, inr}
use Rattle.std.specs.Prelude.{if◌then◌else◌}
use Rattle.std.proofs.lemmas.List.{length-append, length-take-le, take_at, take-take}
use Rattle.std.proofs.lemmas.Bool.{leb-true, le-leb}
use Rattle.swd_bits.specs.Bits.{low_bits, bits_number, odd}
use Rattle.swd_bits.specs.Wire.{bits_of_request}
use Rattle.swd_bits.specs.Transactions.{tx_spelling_bits, tx_ending_bits, moved_data_phase, phase_with, SpellsTx}
use Rattle.swd_bits.specs.Transactions.{IsTxEnd}
use Rattle.swd_bits.specs.declared.request.Request.{Request}
use Rattle.swd_bits.specs.declared.request.Reg4.{Reg4}
use Rattle.swd_bits.specs.declared.request.Reg4.TheVariants.{R0, R4, R8, RC}
use Rattle.swd_bits.specs.declared.tx.TxEnd.{TxEnd}
use Rattle.swd_bits.specs.declared.tx.TxEnd.TheVariants.{Moved, Wait, Fault, NoAck}
use Rattle.swd_bits.specs.declared.tx.Tx.{Tx}
use Rattle.swd_bits.proofs.BitsLemmas.{number-low_bits, low_bits-number, bits_number_lt, length-low_bits}
use Rattle.swd_bits.proofs.TxLemmas.{request_bits_length, data_phase_length_33}
use Rattle.swd_trace.specs.Stands.{Whole, stands, stand_after_ok, stand_after_ack, stand_after_request}
use Rattle.swd_trace.specs.Stands.{stand_after_parity, stand_moved_in, stand_phase_in, stand_reg4_at}
use Rattle.swd_trace.proofs.StandLemmas.{stand_by_test}

-- the parity with one bit more
pub trace_odd_with_bit : (bits : List Bool) (p : Bool) → odd (bits ++ p ∷ []) ≡ (if p then not (odd bits) else odd bits)
trace_odd_with_bit [] true = refl
trace_odd_with_bit [] false = refl
trace_odd_with_bit (true ∷ bits) true = ap not (trace_odd_with_bit bits true)
trace_odd_with_bit (true ∷ bits) false = ap not (trace_odd_with_bit bits false)
trace_odd_with_bit (false ∷ bits) p = trace_odd_with_bit bits p

not_not : (b : Bool) → not (not b) ≡ b
not_not true = refl
not_not false = refl

even_tells : (bits : List Bool) (p : Bool) → odd (bits ++ p ∷ []) ≡ false → odd bits ≡ p
even_tells bits true e = sym (not_not (odd bits)) ∙ ap not (sym (trace_odd_with_bit bits true) ∙ e)
even_tells bits false e = sym (trace_odd_with_bit bits false) ∙ e

-- ---- requests

asked_at : (ap read : Bool) (addr : Reg4) (bits : List Bool) →
    stands (bits_of_request (record { ap = ap; read = read; addr = addr }) ++ bits) ≡ stand_after_request
    (record { ap = ap; read = read; addr = addr }) bits
asked_at true true R0 bits = refl
asked_at true true R4 bits = refl
asked_at true true R8 bits = refl
asked_at true true RC bits = refl
asked_at true false R0 bits = refl
asked_at true false R4 bits = refl
asked_at true false R8 bits = refl
asked_at true false RC bits = refl
asked_at false true R0 bits = refl
asked_at false true R4 bits = refl
asked_at false true R8 bits = refl
asked_at false true RC bits = refl
asked_at false false R0 bits = refl
asked_at false false R4 bits = refl
asked_at false false R8 bits = refl
asked_at false false RC bits = refl

-- after a request
pub trace_stand_after_request : (q : Request) (bits : List Bool)
    → stands (bits_of_request q ++ bits) ≡ stand_after_request q bits
trace_stand_after_request q bits = asked_at q.ap q.read q.addr bits

-- eight bits that are one
pub trace_request_spelled : (port read a b p : Bool) → odd (port ∷ read ∷ a ∷ b ∷ p ∷ []) ≡ false →
    bits_of_request (record { ap = port; read = read; addr = stand_reg4_at a b }) ≡ true ∷ port ∷ read ∷ a ∷ b ∷ p
    ∷ false ∷ true ∷ []
trace_request_spelled port read false false p e = ap (λ x. true ∷ port ∷ read ∷ false ∷ false ∷ x ∷ false ∷ true ∷ [])
    (even_tells (port ∷ read ∷ false ∷ false ∷ []) p e)
trace_request_spelled port read true false p e = ap (λ x. true ∷ port ∷ read ∷ true ∷ false ∷ x ∷ false ∷ true ∷ [])
    (even_tells (port ∷ read ∷ true ∷ false ∷ []) p e)
trace_request_spelled port read false true p e = ap (λ x. true ∷ port ∷ read ∷ false ∷ true ∷ x ∷ false ∷ true ∷ [])
    (even_tells (port ∷ read ∷ false ∷ true ∷ []) p e)
trace_request_spelled port read true true p e = ap (λ x. true ∷ port ∷ read ∷ true ∷ true ∷ x ∷ false ∷ true ∷ [])
    (even_tells (port ∷ read ∷ true ∷ true ∷ []) p e)

-- ---- data phases

-- the last bit
last_bit : (n : ℕ) (bits : List Bool) → length bits ≡ suc n → (p : Bool) × (bits ≡ take n bits ++ p ∷ [])
last_bit n [] h = absurd (omega arith)
last_bit zero (b ∷ []) h = (b, refl)
last_bit zero (b ∷ c ∷ bits) h = absurd (omega arith)
last_bit (suc n) (b ∷ bits) h =
    let l : length bits ≡ suc n = omega arith in
    let r = last_bit n bits l in
    (r.0, ap (λ x. b ∷ x) r.1)

parity_tells : (odd p : Bool) → (if not (if p then not odd else odd) then odd else not odd) ≡ p
parity_tells true true = refl
parity_tells true false = refl
parity_tells false true = refl
parity_tells false false = refl

-- 33 bits are the phase of the word in them
pub trace_phase_of_its_word : (phase : List Bool) → length phase ≡ 33
    → phase_with (bits_number (take 32 phase)) (not (odd phase)) ≡ phase
unfolding phase_with
trace_phase_of_its_word phase h =
    let r = last_bit 32 phase h in
    let front = take 32 phase in
    let l : length front ≡ 32 = length-take-le 32 phase (omega arith) in
    let word : low_bits 32 (bits_number front) ≡ front = ap (λ n. low_bits n (bits_number front)) (sym l)
    ∙ low_bits-number front in
    let parity : odd phase ≡ (if r.0 then not (odd front) else odd front) = ap odd r.1 ∙ trace_odd_with_bit front r.0 in
    let bit : (if not (odd phase) then odd front else not (odd front)) ≡ r.0 =
    ap (λ x. if not x then odd front else not (odd front)) parity ∙ parity_tells (odd front) r.0 in
    ap (λ w. w ++ (if not (odd phase) then odd w else not (odd w)) ∷ []) word ∙ ap (λ x. front ++ x ∷ []) bit ∙ sym r.1

right_of : (odd ok : Bool) → not (if (if ok then odd else not odd) then not odd else odd) ≡ ok
right_of true true = refl
right_of true false = refl
right_of false true = refl
right_of false false = refl

abbrev moved_of : ℕ → Bool → TxEnd
moved_of word ok = Moved word ok

-- the word in a phase is the phase's
pub trace_moved_in_phase : (word : ℕ) (ok : Bool) → word < 2 ^ 32 → stand_moved_in (phase_with word ok) ≡ Moved word ok
unfolding phase_with
trace_moved_in_phase word ok h =
    let front = low_bits 32 word in
    let p : Bool = if ok then odd front else not (odd front) in
    let w : bits_number (take 32 (front ++ p ∷ [])) ≡ word =
    ap bits_number (take_at front (p ∷ []) 32 (length-low_bits 32 word))
    ∙ number-low_bits 32 word h in
    let r : not (odd (front ++ p ∷ [])) ≡ ok = ap not (trace_odd_with_bit front p) ∙ right_of (odd front) ok in
    ap (λ x. moved_of x (not (odd (front ++ p ∷ [])))) w ∙ ap (moved_of word) r

-- ---- a spelling stands

length_34 : (read u : Bool) (phase more : List Bool) → length phase ≡ 33
    → length (moved_data_phase read u phase ++ more) ≡ 34 + length more
length_34 true u phase more h = length-append (phase ++ u ∷ []) more
    ∙ ap (λ n. n + length more) (length-append phase (u ∷ []) ∙ ap (λ n. n + 1) h)
length_34 false u phase more h = let e : length (phase ++ more) ≡ 33 + length more = length-append phase more
    ∙ ap (λ n. n + length more) h in omega arith

phase_found : (read u : Bool) (phase more : List Bool) → length phase ≡ 33
    → stand_phase_in read (moved_data_phase read u phase ++ more) ≡ phase
phase_found true u phase more h = ap (take 33) (append_assoc phase (u ∷ []) more) ∙ take_at phase (u ∷ more) 33 h
phase_found false u phase more h = take_at phase more 33 h

abbrev tx_of : Request → TxEnd → Tx
tx_of q end = record { request = q; result = end }

stands_ok : (q : Request) (word : ℕ) (ok u : Bool) (more : List Bool) → word < 2 ^ 32 →
    stand_after_ok q (moved_data_phase q.read u (phase_with word ok) ++ more) ≡ Whole (tx_of q (Moved word ok)) 46
stands_ok q word ok u more h =
    let l = length_34 q.read u (phase_with word ok) more (data_phase_length_33 word ok) in
    let t : nat_le 34 (length (moved_data_phase q.read u (phase_with word ok) ++ more)) ≡ true = le-leb 34
    (length (moved_data_phase q.read u (phase_with word ok) ++ more)) (omega arith) in
    rw t (ap (λ p. Whole (tx_of q (stand_moved_in p)) 46)
    (phase_found q.read u (phase_with word ok) more (data_phase_length_33 word ok))
    ∙ ap (λ m. Whole (tx_of q m) 46) (trace_moved_in_phase word ok h))

-- how many bits a transaction has after its request and a turnaround
abbrev pub trace_tx_len : TxEnd → ℕ
trace_tx_len (Moved word ok) = 46
trace_tx_len Wait = 13
trace_tx_len Fault = 13
trace_tx_len (NoAck seen) = 12

stands_none : (q : Request) (t : Bool) (seen : ℕ) (more : List Bool) → IsTxEnd (NoAck seen) →
    stand_after_request q (t ∷ (low_bits 3 seen ++ more)) ≡ Whole (tx_of q (NoAck seen)) 12
unfolding low_bits
stands_none q t seen more h = elim h [
  | inl z ↦ rw z refl
  | inr h ↦ elim h [
    | inl z ↦ rw z refl
    | inr h ↦ elim h [
      | inl z ↦ rw z refl
      | inr h ↦ elim h [ inl z ↦ rw z refl | inr z ↦ rw z refl ]
    ]
  ]
]

stands_end : (q : Request) (end : TxEnd) (t u : Bool) (more : List Bool) → IsTxEnd end →
    stand_after_request q (t ∷ (tx_ending_bits q.read end u ++ more)) ≡ Whole (tx_of q end) (trace_tx_len end)
stands_end q (Moved word ok) t u more h = stands_ok q word ok u more h
stands_end q Wait t u more h = refl
stands_end q Fault t u more h = refl
stands_end q (NoAck seen) t u more h =
    ap (λ x. stand_after_request q (t ∷ x)) (append_assoc (low_bits 3 seen) [] more) ∙ stands_none q t seen more h

length_ending : (read : Bool) (end : TxEnd) (u : Bool) → 9 + length (tx_ending_bits read end u) ≡ trace_tx_len end
length_ending true (Moved word ok) u = let e = length-append (phase_with word ok) (u ∷ []) in
    let f = data_phase_length_33
    word ok in omega arith
length_ending false (Moved word ok) u = let f = data_phase_length_33 word ok in omega arith
length_ending read Wait u = refl
length_ending read Fault u = refl
length_ending read (NoAck seen) u = let e = length-append (low_bits 3 seen) [] in let f = length-low_bits 3 seen in
    omega arith

-- a transaction has 46 bits after OK, 13 after WAIT or FAULT, and 12 without an ACK
pub trace_spelling_length : (tx : Tx) (t u : Bool) → length (tx_spelling_bits tx t u) ≡ trace_tx_len tx.result
trace_spelling_length tx t u =
    let e = length-append (bits_of_request tx.request) (t ∷ tx_ending_bits tx.request.read tx.result u) in
    let f = request_bits_length tx.request in
    let g = length_ending tx.request.read tx.result u in
    omega arith

-- the bits of a transaction, with any turnarounds and whatever follows, are found as that transaction, whole
pub trace_stand_of_spelling : (tx : Tx) (t u : Bool) (more : List Bool) → IsTxEnd tx.result →
    stands (tx_spelling_bits tx t u ++ more) ≡ Whole tx (trace_tx_len tx.result)
trace_stand_of_spelling tx t u more h =
    ap stands (append_assoc (bits_of_request tx.request) (t ∷ tx_ending_bits tx.request.read tx.result u) more)
    ∙ trace_stand_after_request tx.request (t ∷ (tx_ending_bits tx.request.read tx.result u ++ more))
    ∙ stands_end tx.request tx.result t u more h

-- bits that spell a transaction are found as it, whole and with their length, whatever follows
pub trace_stand_of_spelled_tx : (tx : Tx) (bits more : List Bool) → SpellsTx tx bits
    → stands (bits ++ more) ≡ Whole tx (length bits)
trace_stand_of_spelled_tx tx bits more p =
    ap (λ x. stands (x ++ more)) p.3 ∙ trace_stand_of_spelling tx p.1 p.2 more p.0
    ∙ ap (Whole tx) (sym (ap length p.3 ∙ trace_spelling_length tx p.1 p.2))

-- ---- what stands is spelled

-- a transaction that was found after a request
record Found (q : Request) (t : Bool) (bits : List Bool) (tx : Tx) (n : ℕ) : Type 0 where
  pub more : ℕ
  pub long : n ≡ 9 + more
  pub spelled : SpellsTx tx (bits_of_request q ++ t ∷ take more bits)

one_more : (n : ℕ) (bits : List Bool) → suc n ≤ length bits → (u : Bool) × (take (suc n) bits ≡ take n bits ++ u ∷ [])
one_more n bits h =
    let l : length (take (suc n) bits) ≡ suc n = length-take-le (suc n) bits h in
    let r = last_bit n (take (suc n) bits) l in
    let m : n ≤ suc n = omega arith in
    (r.0, r.1 ∙ ap (λ x. x ++ r.0 ∷ []) (take-take n (suc n) bits m))

moved_found : (read : Bool) (bits : List Bool) → 34 ≤ length bits →
    (length (stand_phase_in read bits) ≡ 33)
    × ((u : Bool) × (take 34 bits ≡ moved_data_phase read u (stand_phase_in read bits)))
moved_found true bits h = (length-take-le 33 bits (omega arith), one_more 33 bits h)
moved_found false [] h = absurd (omega arith)
moved_found false (u ∷ bits) h = let n : 33 ≤ length bits = omega arith in (length-take-le 33 bits n, (u, refl))

word_lt : (phase : List Bool) → length phase ≡ 33 → bits_number (take 32 phase) < 2 ^ 32
word_lt phase h =
    let l : length (take 32 phase) ≡ 32 = length-take-le 32 phase (omega arith) in
    subst (λ n. bits_number (take 32 phase) < 2 ^ n) l (bits_number_lt (take 32 phase))

found : (q : Request) (t : Bool) (bits : List Bool) (end : TxEnd) (tx : Tx) (m n k : ℕ) (u : Bool)
    → Whole (tx_of q end) m ≡ Whole tx n → m ≡ 9 + k →
    IsTxEnd end → take k bits ≡ tx_ending_bits q.read end u → Found q t bits tx n
found q t bits end tx m n k u e h fits s =
    let same : tx_of q end ≡ tx = cc in
    let len : m ≡ n = cc in
    let spelled : SpellsTx (tx_of q end) (bits_of_request q ++ t ∷ take k bits) =
    (fits, t, u, ap (λ x. bits_of_request q ++ t ∷ x) s) in
    record {
      more = k;
      long = omega arith;
      spelled = subst (λ x. SpellsTx x (bits_of_request q ++ t ∷ take k bits)) same spelled;
    }

ok_found : (q : Request) (t : Bool) (bits : List Bool) (tx : Tx) (n : ℕ) → stand_after_ok q bits ≡ Whole tx n
    → Found q t (true ∷ false ∷ false ∷ bits) tx n
ok_found q t bits tx n =
    stand_by_test (nat_le 34 (length bits)) _ _ (λ s. s ≡ Whole tx n → Found q t (true ∷ false ∷ false ∷ bits) tx n)
    (λ test e.
    let h : 34 ≤ length bits = leb-true 34 (length bits) test in
    let parts = moved_found q.read bits h in
    let phase = stand_phase_in q.read bits in
    let spelled : phase_with (bits_number (take 32 phase)) (not (odd phase)) ≡ phase =
    trace_phase_of_its_word phase parts.0 in
    found q t (true ∷ false ∷ false ∷ bits) (stand_moved_in phase) tx 46 n 37 parts.1.0 e refl (word_lt phase parts.0)
    (ap (λ x. true ∷ false ∷ false ∷ x) (parts.1.1 ∙ ap (moved_data_phase q.read parts.1.0) (sym spelled))))
    (λ test e. absurd cc)

ack_found : (q : Request) (t a b c : Bool) (bits : List Bool) (tx : Tx) (n : ℕ)
    → stand_after_ack q a b c bits ≡ Whole tx n → Found q t (a ∷ b ∷ c ∷ bits) tx n
unfolding low_bits
ack_found q t true false false bits tx n e = ok_found q t bits tx n e
ack_found q t false true false [] tx n e = absurd cc
ack_found q t false true false (u ∷ bits) tx n e = found q t (false ∷ true ∷ false ∷ u ∷ bits) Wait tx 13 n 4 u e refl
    tt refl
ack_found q t false false true [] tx n e = absurd cc
ack_found q t false false true (u ∷ bits) tx n e = found q t (false ∷ false ∷ true ∷ u ∷ bits) Fault tx 13 n 4 u e refl
    tt refl
ack_found q t true true true bits tx n e = found q t (true ∷ true ∷ true ∷ bits) (NoAck 7) tx 12 n 3 true e refl
    (inr (inr (inr (inr refl)))) refl
ack_found q t true true false bits tx n e = found q t (true ∷ true ∷ false ∷ bits) (NoAck 3) tx 12 n 3 true e refl
    (inr (inl refl)) refl
ack_found q t true false true bits tx n e = found q t (true ∷ false ∷ true ∷ bits) (NoAck 5) tx 12 n 3 true e refl
    (inr (inr (inl refl))) refl
ack_found q t false true true bits tx n e = found q t (false ∷ true ∷ true ∷ bits) (NoAck 6) tx 12 n 3 true e refl
    (inr (inr (inr (inl refl)))) refl
ack_found q t false false false bits tx n e = found q t (false ∷ false ∷ false ∷ bits) (NoAck 0) tx 12 n 3 true e refl
    (inl refl) refl

take_found : (q : Request) (t : Bool) (bits : List Bool) (tx : Tx) (n : ℕ) → Found q t bits tx n
    → SpellsTx tx (take n (bits_of_request q ++ t ∷ bits))
take_found q t bits tx n f =
    let l : length (bits_of_request q) ≡ 8 = request_bits_length q in
    let e : take n (bits_of_request q ++ t ∷ bits) ≡ bits_of_request q ++ t ∷ take f.more bits =
    ap (λ k. take k (bits_of_request q ++ t ∷ bits)) (f.long ∙ omega arith)
    ∙ take_past (bits_of_request q) (t ∷ bits) (suc f.more) 8 l in
    subst (SpellsTx tx) (sym e) f.spelled
  where
    take_past : (front bits : List Bool) (k m : ℕ) → length front ≡ m
        → take (m + k) (front ++ bits) ≡ front ++ take k bits
    take_past [] bits k m h = let e : m + k ≡ k = omega arith in ap (λ j. take j bits) e
    take_past (b ∷ front) bits k zero h = absurd (omega arith)
    take_past (b ∷ front) bits k (suc m) h =
        let l : length front ≡ m = omega arith in
        let e : suc m + k ≡ suc (m + k) = omega arith in
        ap (λ j. take j (b ∷ (front ++ bits))) e ∙ ap (λ x. b ∷ x) (take_past front bits k m l)

parity_found : (q : Request) (bits : List Bool) (tx : Tx) (n : ℕ) (front : List Bool)
    → bits_of_request q ≡ front ++ false ∷ true ∷ [] → stand_after_parity q bits ≡ Whole tx n →
    SpellsTx tx (take n (front ++ bits))
parity_found q [] tx n front h e = absurd cc
parity_found q (true ∷ bits) tx n front h e = absurd cc
parity_found q (false ∷ []) tx n front h e = absurd cc
parity_found q (false ∷ false ∷ bits) tx n front h e = absurd cc
parity_found q (false ∷ true ∷ []) tx n front h e = absurd cc
parity_found q (false ∷ true ∷ t ∷ []) tx n front h e = absurd cc
parity_found q (false ∷ true ∷ t ∷ a ∷ []) tx n front h e = absurd cc
parity_found q (false ∷ true ∷ t ∷ a ∷ b ∷ []) tx n front h e = absurd cc
parity_found q (false ∷ true ∷ t ∷ a ∷ b ∷ c ∷ bits) tx n front h e =
    let join : bits_of_request q ++ t ∷ a ∷ b ∷ c ∷ bits ≡ front ++ false ∷ true ∷ t ∷ a ∷ b ∷ c ∷ bits =
    ap (λ x. x ++ t ∷ a ∷ b ∷ c ∷ bits) h ∙ append_assoc front (false ∷ true ∷ []) (t ∷ a ∷ b ∷ c ∷ bits) in
    subst (λ x. SpellsTx tx (take n x)) join (take_found q t (a ∷ b ∷ c ∷ bits) tx n (ack_found q t a b c bits tx n e))

-- where a whole transaction of n bits is found at the front, the first n bits spell it
pub trace_stand_is_spelled : (bits : List Bool) (tx : Tx) (n : ℕ) → stands bits ≡ Whole tx n → SpellsTx tx (take n bits)
trace_stand_is_spelled [] tx n e = absurd cc
trace_stand_is_spelled (false ∷ bits) tx n e = absurd cc
trace_stand_is_spelled (true ∷ []) tx n e = absurd cc
trace_stand_is_spelled (true ∷ port ∷ []) tx n e = absurd cc
trace_stand_is_spelled (true ∷ port ∷ read ∷ []) tx n e = absurd cc
trace_stand_is_spelled (true ∷ port ∷ read ∷ a ∷ []) tx n e = absurd cc
trace_stand_is_spelled (true ∷ port ∷ read ∷ a ∷ b ∷ []) tx n e = absurd cc
trace_stand_is_spelled (true ∷ port ∷ read ∷ a ∷ b ∷ parity ∷ bits) tx n e =
    stand_by_test (odd (port ∷ read ∷ a ∷ b ∷ parity ∷ [])) _ _
    (λ s. s ≡ Whole tx n → SpellsTx tx (take n (true ∷ port ∷ read ∷ a ∷ b ∷ parity ∷ bits)))
    (λ t e. absurd cc)
    (λ t e. parity_found (record { ap = port; read = read; addr = stand_reg4_at a b }) bits tx n
    (true ∷ port ∷ read ∷ a ∷ b ∷ parity ∷ []) (trace_request_spelled port read a b parity t) e) e
