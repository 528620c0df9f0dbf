-- Laws of what stands at the front of some bits.
use Rattle.std.proofs.Common.{◌≡◌, ℕ, ◌+◌, ◌<◌, ◌≤◌, Bool, true, false, List, [], ◌∷◌, ◌++◌, length, nat_le, refl, ap}
use Rattle.std.proofs.Common.{◌∙◌, arith, inl, inr, ◌⊎◌}
use Rattle.std.specs.Prelude.{if◌then◌else◌}
use Rattle.std.proofs.lemmas.List.{length-append, take-append-le}
use Rattle.std.proofs.lemmas.Bool.{leb-true, le-leb}
use Rattle.std.proofs.lemmas.Bool.Decides.{leb_tells}
use Rattle.swd_bits.specs.Bits.{odd}
use Rattle.swd_bits.specs.declared.request.Request.{Request}
use Rattle.swd_bits.specs.declared.tx.TxEnd.{TxEnd}
use Rattle.swd_bits.specs.declared.tx.TxEnd.TheVariants.{Wait, Fault}
use Rattle.swd_bits.specs.declared.tx.Tx.{Tx}
use Rattle.swd_trace.specs.Stands.{Stand, Whole, Begun, Broken, stands, stand_after_ok, stand_after_refusal}
use Rattle.swd_trace.specs.Stands.{stand_after_ack}
use Rattle.swd_trace.specs.Stands.{stand_after_request, stand_after_parity, stand_phase_in, stand_reg4_at}
use Rattle.swd_trace.specs.Reading.{trace_ones}

-- a choice, by its test
pub stand_by_test : {A : Type 0} (t : Bool) (a b : A) (P : A → Type 0) → (t ≡ true → P a) → (t ≡ false → P b)
    → P (if t then a else b)
stand_by_test true a b P f g = f refl
stand_by_test false a b P f g = g refl

-- the test whether a is at most b says no where b is less
pub trace_len_test_false : (a b : ℕ) → b < a → nat_le a b ≡ false
trace_len_test_false a b h = elim (leb_tells a b) [
  | inl p ↦ (let n : a ≤ b = p.1 in
      absurd (omega arith))
  | inr p ↦ p.0
]

-- where a transaction begins, more bits may change what stands; else they do not
abbrev Settles : Stand → Stand → Type 0
Settles old new = (old ≡ Begun) ⊎ (new ≡ old)

phase_stays : (read : Bool) (bits more : List Bool) → 34 ≤ length bits
    → stand_phase_in read (bits ++ more) ≡ stand_phase_in read bits
phase_stays true bits more h = take-append-le 33 bits more (omega arith)
phase_stays false [] more h = absurd (omega arith)
phase_stays false (b ∷ bits) more h = take-append-le 33 bits more (omega arith)

ok_settles : (q : Request) (bits more : List Bool) → Settles (stand_after_ok q bits) (stand_after_ok q (bits ++ more))
ok_settles q bits more =
    elim (leb_tells 34 (length bits)) [
      | inl p ↦
          let n : 34 ≤ length bits = p.1 in
          let l : length (bits ++ more) ≡ length bits + length more = length-append bits more in
          let t : nat_le 34 (length (bits ++ more)) ≡ true = le-leb 34 (length (bits ++ more)) (omega arith) in
          inr (rw (p.0, t, phase_stays q.read bits more n) refl)
      | inr p ↦ inl (rw p.0 refl)
    ]

refusal_settles : (q : Request) (end : TxEnd) (bits more : List Bool)
    → Settles (stand_after_refusal q end bits) (stand_after_refusal q end (bits ++ more))
refusal_settles q end [] more = inl refl
refusal_settles q end (t ∷ bits) more = inr refl

ack_settles : (q : Request) (a b c : Bool) (bits more : List Bool)
    → Settles (stand_after_ack q a b c bits) (stand_after_ack q a b c (bits ++ more))
ack_settles q true false false bits more = ok_settles q bits more
ack_settles q false true false bits more = refusal_settles q Wait bits more
ack_settles q false false true bits more = refusal_settles q Fault bits more
ack_settles q true true c bits more = inr refl
ack_settles q true false true bits more = inr refl
ack_settles q false true true bits more = inr refl
ack_settles q false false false bits more = inr refl

request_settles : (q : Request) (bits more : List Bool)
    → Settles (stand_after_request q bits) (stand_after_request q (bits ++ more))
request_settles q [] more = inl refl
request_settles q (t ∷ []) more = inl refl
request_settles q (t ∷ a ∷ []) more = inl refl
request_settles q (t ∷ a ∷ b ∷ []) more = inl refl
request_settles q (t ∷ a ∷ b ∷ c ∷ bits) more = ack_settles q a b c bits more

parity_settles : (q : Request) (bits more : List Bool)
    → Settles (stand_after_parity q bits) (stand_after_parity q (bits ++ more))
parity_settles q [] more = inl refl
parity_settles q (true ∷ bits) more = inr refl
parity_settles q (false ∷ []) more = inl refl
parity_settles q (false ∷ false ∷ bits) more = inr refl
parity_settles q (false ∷ true ∷ bits) more = request_settles q bits more

choice_settles : (t : Bool) (old new : Stand) → Settles old new
    → Settles (if t then Broken else old) (if t then Broken else new)
choice_settles true old new s = inr refl
choice_settles false old new s = s

-- unless the bits are the beginning of a transaction, later bits don't change what is found at their front
pub trace_stand_is_settled : (bits more : List Bool) → (stands bits ≡ Begun) ⊎ (stands (bits ++ more) ≡ stands bits)
trace_stand_is_settled [] more = inl refl
trace_stand_is_settled (false ∷ bits) more = inr refl
trace_stand_is_settled (true ∷ []) more = inl refl
trace_stand_is_settled (true ∷ ap ∷ []) more = inl refl
trace_stand_is_settled (true ∷ ap ∷ read ∷ []) more = inl refl
trace_stand_is_settled (true ∷ ap ∷ read ∷ a ∷ []) more = inl refl
trace_stand_is_settled (true ∷ ap ∷ read ∷ a ∷ b ∷ []) more = inl refl
trace_stand_is_settled (true ∷ ap ∷ read ∷ a ∷ b ∷ parity ∷ bits) more =
    choice_settles (odd (ap ∷ read ∷ a ∷ b ∷ parity ∷ [])) _ _
    (parity_settles (record { ap = ap; read = read; addr = stand_reg4_at a b }) bits more)

-- a whole transaction at the front is found whatever follows
pub trace_stand_stays_whole : (bits more : List Bool) (tx : Tx) (n : ℕ) → stands bits ≡ Whole tx n
    → stands (bits ++ more) ≡ Whole tx n
trace_stand_stays_whole bits more tx n e = elim (trace_stand_is_settled bits more) [ inl f ↦ absurd cc | inr f ↦ f ∙ e ]

-- bits that begin no transaction begin none whatever follows
pub trace_stand_stays_broken : (bits more : List Bool) → stands bits ≡ Broken → stands (bits ++ more) ≡ Broken
trace_stand_stays_broken bits more e = elim (trace_stand_is_settled bits more) [ inl f ↦ absurd cc | inr f ↦ f ∙ e ]

-- where the bits do not begin as none does, the seventh ends the ones
ones_front : (front bits : List Bool) → trace_ones (front ++ false ∷ bits) ≤ length front
ones_front [] bits = omega arith
ones_front (false ∷ front) bits = omega arith
ones_front (true ∷ front) bits = let h = ones_front front bits in omega arith

-- no more ones are at the front than there are bits
pub trace_ones_le_length : (bits : List Bool) → trace_ones bits ≤ length bits
trace_ones_le_length [] = omega arith
trace_ones_le_length (false ∷ bits) = omega arith
trace_ones_le_length (true ∷ bits) = let h = trace_ones_le_length bits in omega arith

choice_broken : (t : Bool) (s : Stand) → s ≡ Broken → (if t then Broken else s) ≡ Broken
choice_broken true s e = refl
choice_broken false s e = e

-- bits with more than six ones at the front begin no transaction
pub trace_stand_few_ones : (bits : List Bool) → (stands bits ≡ Broken) ⊎ (trace_ones bits ≤ 6)
trace_stand_few_ones [] = inr (omega arith)
trace_stand_few_ones (false ∷ bits) = inr (omega arith)
trace_stand_few_ones (true ∷ []) = inr (omega arith)
trace_stand_few_ones (true ∷ ap ∷ []) = let h = trace_ones_le_length (true ∷ ap ∷ []) in inr (omega arith)
trace_stand_few_ones (true ∷ ap ∷ read ∷ []) = let h = trace_ones_le_length (true ∷ ap ∷ read ∷ []) in inr (omega arith)
trace_stand_few_ones (true ∷ ap ∷ read ∷ a ∷ []) = let h = trace_ones_le_length (true ∷ ap ∷ read ∷ a ∷ []) in
    inr (omega arith)
trace_stand_few_ones (true ∷ ap ∷ read ∷ a ∷ b ∷ []) = let h = trace_ones_le_length (true ∷ ap ∷ read ∷ a ∷ b ∷ []) in
    inr (omega arith)
trace_stand_few_ones (true ∷ ap ∷ read ∷ a ∷ b ∷ parity ∷ []) = let h =
    trace_ones_le_length (true ∷ ap ∷ read ∷ a ∷ b ∷ parity ∷ []) in inr
    (omega arith)
trace_stand_few_ones (true ∷ ap ∷ read ∷ a ∷ b ∷ parity ∷ false ∷ bits) =
    let h : trace_ones (true ∷ ap ∷ read ∷ a ∷ b ∷ parity ∷ false ∷ bits) ≤ 6 = ones_front
    (true ∷ ap ∷ read ∷ a ∷ b ∷ parity ∷ []) bits in inr h
trace_stand_few_ones (true ∷ ap ∷ read ∷ a ∷ b ∷ parity ∷ true ∷ bits) = inl
    (choice_broken (odd (ap ∷ read ∷ a ∷ b ∷ parity ∷ [])) Broken refl)

-- a transaction that stands has no more bits than there are
ok_fits : (q : Request) (bits : List Bool) (tx : Tx) (n : ℕ) → stand_after_ok q bits ≡ Whole tx n → n ≤ 12 + length bits
ok_fits q bits tx n =
    stand_by_test (nat_le 34 (length bits)) _ _ (λ s. s ≡ Whole tx n → n ≤ 12 + length bits)
    (λ t e. let h : 34 ≤ length bits = leb-true 34 (length bits) t in let m : 46 ≡ n = cc in omega arith)
    (λ t e. absurd cc)

refusal_fits : (q : Request) (end : TxEnd) (bits : List Bool) (tx : Tx) (n : ℕ)
    → stand_after_refusal q end bits ≡ Whole tx n → n ≤ 12 + length bits
refusal_fits q end [] tx n e = absurd cc
refusal_fits q end (t ∷ bits) tx n e = let m : 13 ≡ n = cc in omega arith

ack_fits : (q : Request) (a b c : Bool) (bits : List Bool) (tx : Tx) (n : ℕ) → stand_after_ack q a b c bits ≡ Whole tx n
    → n ≤ 12 + length bits
ack_fits q true false false bits tx n e = ok_fits q bits tx n e
ack_fits q false true false bits tx n e = refusal_fits q Wait bits tx n e
ack_fits q false false true bits tx n e = refusal_fits q Fault bits tx n e
ack_fits q true true c bits tx n e = let m : 12 ≡ n = cc in omega arith
ack_fits q true false true bits tx n e = let m : 12 ≡ n = cc in omega arith
ack_fits q false true true bits tx n e = let m : 12 ≡ n = cc in omega arith
ack_fits q false false false bits tx n e = let m : 12 ≡ n = cc in omega arith

parity_fits : (q : Request) (bits : List Bool) (tx : Tx) (n : ℕ) → stand_after_parity q bits ≡ Whole tx n
    → n ≤ 6 + length bits
parity_fits q [] tx n e = absurd cc
parity_fits q (true ∷ bits) tx n e = absurd cc
parity_fits q (false ∷ []) tx n e = absurd cc
parity_fits q (false ∷ false ∷ bits) tx n e = absurd cc
parity_fits q (false ∷ true ∷ []) tx n e = absurd cc
parity_fits q (false ∷ true ∷ t ∷ []) tx n e = absurd cc
parity_fits q (false ∷ true ∷ t ∷ a ∷ []) tx n e = absurd cc
parity_fits q (false ∷ true ∷ t ∷ a ∷ b ∷ []) tx n e = absurd cc
parity_fits q (false ∷ true ∷ t ∷ a ∷ b ∷ c ∷ bits) tx n e = let h = ack_fits q a b c bits tx n e in omega arith

-- a whole transaction at the front has no more bits than there are
pub trace_stand_whole_fits : (bits : List Bool) (tx : Tx) (n : ℕ) → stands bits ≡ Whole tx n → n ≤ length bits
trace_stand_whole_fits [] tx n e = absurd cc
trace_stand_whole_fits (false ∷ bits) tx n e = absurd cc
trace_stand_whole_fits (true ∷ []) tx n e = absurd cc
trace_stand_whole_fits (true ∷ ap ∷ []) tx n e = absurd cc
trace_stand_whole_fits (true ∷ ap ∷ read ∷ []) tx n e = absurd cc
trace_stand_whole_fits (true ∷ ap ∷ read ∷ a ∷ []) tx n e = absurd cc
trace_stand_whole_fits (true ∷ ap ∷ read ∷ a ∷ b ∷ []) tx n e = absurd cc
trace_stand_whole_fits (true ∷ ap ∷ read ∷ a ∷ b ∷ parity ∷ bits) tx n e =
    let h : n ≤ 6 + length bits = stand_by_test (odd (ap ∷ read ∷ a ∷ b ∷ parity ∷ [])) _ _
    (λ s. s ≡ Whole tx n → n ≤ 6 + length bits)
    (λ t e. absurd cc)
    (λ t e. parity_fits (record { ap = ap; read = read; addr = stand_reg4_at a b }) bits tx n e) e in
    omega arith
