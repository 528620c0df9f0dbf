-- The bits of a transaction by their parts, and that they are of one transaction alone: for `Tx::of`, and for traces.
use Rattle.std.proofs.Common.{◌≡◌, ◌≢◌, ℕ, zero, suc, ◌+◌, ◌^◌, ◌<◌, ◌≤◌, Bool, true, false, not, drop, ap₂, List, []}
use Rattle.std.proofs.Common.{◌∷◌, ◌++◌, length, append_assoc, refl, sym, ap, ◌∙◌, arith, inl, inr}
use Rattle.std.specs.Prelude.{if◌then◌else◌}
use Rattle.std.proofs.lemmas.List.{length-append}
use Rattle.swd_bits.specs.Bits.{low_bits, odd}
use Rattle.swd_bits.specs.Wire.{bits_of_request, addr_bits}
use Rattle.swd_bits.specs.Acks.{bits_of_ack}
use Rattle.swd_bits.specs.Transactions.{tx_ack_bits, tx_tail_bits, moved_data_phase, phase_with, IsTxEnd, SpellsTx}
use Rattle.swd_bits.specs.Transactions.{tx_ending_bits}
use Rattle.swd_bits.specs.declared.request.Request.{Request}
use Rattle.swd_bits.specs.declared.request.Reg4.{Reg4}
use Rattle.swd_bits.specs.declared.request.Reg4.TheVariants.{R0, R4, R8, RC}
use Rattle.swd_bits.specs.declared.ack.Ack.{Ack}
use Rattle.swd_bits.specs.declared.ack.Ack.TheVariants.{Ok as AckOk, Wait as AckWait, Fault as AckFault}
use Rattle.swd_bits.specs.declared.tx.TxEnd.{TxEnd}
use Rattle.swd_bits.specs.declared.tx.TxEnd.TheVariants.{Moved, Wait, Fault, NoAck}
use Rattle.swd_bits.specs.declared.tx.Tx.{Tx}
use Rattle.swd_bits.proofs.BitsLemmas.{length-low_bits, low_bits_injective}

-- two lists with fronts of one length
pub tx_bits_split_same : (a b x y : List Bool) → length a ≡ length b → a ++ x ≡ b ++ y → (a ≡ b) × (x ≡ y)
tx_bits_split_same [] [] x y h e = (refl, e)
tx_bits_split_same [] (b ∷ t) x y h e = absurd (omega arith)
tx_bits_split_same (a ∷ s) [] x y h e = absurd (omega arith)
tx_bits_split_same (a ∷ s) (b ∷ t) x y h e =
    let same : a ≡ b = cc in
    let rest : s ++ x ≡ t ++ y = cc in
    let len : length s ≡ length t = omega arith in
    let r = tx_bits_split_same s t x y len rest in
    let front : s ≡ t = r.0 in
    (cc, r.1)

length_asked : (ap read : Bool) (addr : Reg4)
    → length (bits_of_request (record { ap = ap; read = read; addr = addr })) ≡ 8
length_asked ap read R0 = refl
length_asked ap read R4 = refl
length_asked ap read R8 = refl
length_asked ap read RC = refl

-- a request has eight bits
pub request_bits_length : (q : Request) → length (bits_of_request q) ≡ 8
request_bits_length q = length_asked q.ap q.read q.addr

-- a data phase has 33 bits, whether or not its parity is right
pub data_phase_length_33 : (word : ℕ) (ok : Bool) → length (phase_with word ok) ≡ 33
unfolding phase_with
data_phase_length_33 word ok = length-append (low_bits 32 word) _ ∙ ap (λ n. n + 1) (length-low_bits 32 word)

length_moved : (read u : Bool) (phase : List Bool) → length phase ≡ 33 → length (moved_data_phase read u phase) ≡ 34
length_moved true u phase h = length-append phase (u ∷ []) ∙ ap (λ n. n + 1) h
length_moved false u phase h = ap suc h

pub tx_ack_bits_length : (end : TxEnd) → length (tx_ack_bits end) ≡ 3
tx_ack_bits_length (Moved word ok) = refl
tx_ack_bits_length Wait = refl
tx_ack_bits_length Fault = refl
tx_ack_bits_length (NoAck seen) = length-low_bits 3 seen

-- no two of the three acknowledgements, and none of the other numbers, have the same bits
other_0 : (a : Ack) → low_bits 3 0 ≡ bits_of_ack a → ⊥
unfolding low_bits
other_0 AckOk e = cc
other_0 AckWait e = cc
other_0 AckFault e = cc

other_3 : (a : Ack) → low_bits 3 3 ≡ bits_of_ack a → ⊥
unfolding low_bits
other_3 AckOk e = cc
other_3 AckWait e = cc
other_3 AckFault e = cc

other_5 : (a : Ack) → low_bits 3 5 ≡ bits_of_ack a → ⊥
unfolding low_bits
other_5 AckOk e = cc
other_5 AckWait e = cc
other_5 AckFault e = cc

other_6 : (a : Ack) → low_bits 3 6 ≡ bits_of_ack a → ⊥
unfolding low_bits
other_6 AckOk e = cc
other_6 AckWait e = cc
other_6 AckFault e = cc

other_7 : (a : Ack) → low_bits 3 7 ≡ bits_of_ack a → ⊥
unfolding low_bits
other_7 AckOk e = cc
other_7 AckWait e = cc
other_7 AckFault e = cc

ack_other : (n : ℕ) → IsTxEnd (NoAck n) → (a : Ack) → low_bits 3 n ≡ bits_of_ack a → ⊥
unfolding low_bits
ack_other n h a e = elim h [
  | inl z ↦ other_0 a (rw z at e)
  | inr h ↦ elim h [
    | inl z ↦ other_3 a (rw z at e)
    | inr h ↦ elim h [
      | inl z ↦ other_5 a (rw z at e)
      | inr h ↦ elim h [
        | inl z ↦ other_6 a (rw z at e)
        | inr z ↦ other_7 a (rw z at e)
      ]
    ]
  ]
]

-- what is no acknowledgement is one of the five
pub no_ack_bits_five_numbers : (seen : ℕ) → seen < 8 → ((a : Ack) → bits_of_ack a ≢ low_bits 3 seen)
    → IsTxEnd (NoAck seen)
unfolding low_bits
no_ack_bits_five_numbers zero h none = inl refl
no_ack_bits_five_numbers (suc zero) h none = absurd (none AckOk refl)
no_ack_bits_five_numbers (suc (suc zero)) h none = absurd (none AckWait refl)
no_ack_bits_five_numbers (suc (suc (suc zero))) h none = inr (inl refl)
no_ack_bits_five_numbers (suc (suc (suc (suc zero)))) h none = absurd (none AckFault refl)
no_ack_bits_five_numbers (suc (suc (suc (suc (suc zero))))) h none = inr (inr (inl refl))
no_ack_bits_five_numbers (suc (suc (suc (suc (suc (suc zero)))))) h none = inr (inr (inr (inl refl)))
no_ack_bits_five_numbers (suc (suc (suc (suc (suc (suc (suc zero))))))) h none = inr (inr (inr (inr refl)))
no_ack_bits_five_numbers (suc (suc (suc (suc (suc (suc (suc (suc n)))))))) h none = absurd (omega arith)

-- how many bits follow an acknowledgement
abbrev pub tx_bits_after_ack : Ack → ℕ
tx_bits_after_ack AckOk = 34
tx_bits_after_ack AckWait = 1
tx_bits_after_ack AckFault = 1

-- 34 bits follow OK in a transaction, and one follows WAIT or FAULT
pub tx_bits_after_ack_length : (a : Ack) (read u : Bool) (end : TxEnd) → IsTxEnd end → tx_ack_bits end ≡ bits_of_ack a
    → length (tx_tail_bits read end u) ≡ tx_bits_after_ack a
tx_bits_after_ack_length AckOk read u (Moved word ok) h e =
    length_moved read u (phase_with word ok) (data_phase_length_33 word ok)
tx_bits_after_ack_length AckWait read u (Moved word ok) h e = absurd cc
tx_bits_after_ack_length AckFault read u (Moved word ok) h e = absurd cc
tx_bits_after_ack_length AckOk read u Wait h e = absurd cc
tx_bits_after_ack_length AckWait read u Wait h e = refl
tx_bits_after_ack_length AckFault read u Wait h e = absurd cc
tx_bits_after_ack_length AckOk read u Fault h e = absurd cc
tx_bits_after_ack_length AckWait read u Fault h e = absurd cc
tx_bits_after_ack_length AckFault read u Fault h e = refl
tx_bits_after_ack_length a read u (NoAck seen) h e = absurd (ack_other seen h a e)

-- where no acknowledgement was seen nothing follows
pub tx_bits_end_at_no_ack : (seen : ℕ) → ((a : Ack) → bits_of_ack a ≢ low_bits 3 seen) → (read u : Bool) (end : TxEnd)
    → tx_ack_bits end ≡ low_bits 3 seen → tx_tail_bits read end u ≡ []
tx_bits_end_at_no_ack seen none read u (Moved word ok) e = absurd (none AckOk e)
tx_bits_end_at_no_ack seen none read u Wait e = absurd (none AckWait e)
tx_bits_end_at_no_ack seen none read u Fault e = absurd (none AckFault e)
tx_bits_end_at_no_ack seen none read u (NoAck n) e = refl

-- a list of one bit
pub tx_bits_one_bit : (bits : List Bool) → length bits ≡ 1 → (u : Bool) × (bits ≡ u ∷ [])
tx_bits_one_bit [] h = absurd (omega arith)
tx_bits_one_bit (b ∷ []) h = (b, refl)
tx_bits_one_bit (b ∷ c ∷ bits) h = absurd (omega arith)

-- a list of length 0 has no bits
pub tx_bits_no_bit : (bits : List Bool) → length bits ≡ 0 → bits ≡ []
tx_bits_no_bit [] h = refl
tx_bits_no_bit (b ∷ bits) h = absurd (omega arith)

-- what the parts of some bits say
pub tx_spelled_by_parts : (q : Request) (end : TxEnd) (bits a r1 t r2 s r3 : List Bool) → length t ≡ 1
    → bits_of_request q ≡ a → tx_ack_bits end ≡ s →
    bits ≡ a ++ r1 → r1 ≡ t ++ r2 → r2 ≡ s ++ r3 → IsTxEnd end → (u : Bool) → r3 ≡ tx_tail_bits q.read end u
    → SpellsTx (record { request = q; result = end }) bits
tx_spelled_by_parts q end bits a r1 t r2 s r3 n e f g h i fits u j =
    let first = tx_bits_one_bit t n in (
      fits,
      first.0,
      u,
      g ∙ ap (λ x. x ++ r1) (sym e)
          ∙ ap (λ x. bits_of_request q ++ x) (h ∙ ap (λ x. x ++ r2) first.1
          ∙ ap (λ x. first.0 ∷ x) (i ∙ ap (λ x. x ++ r3) (sym f) ∙ ap (λ x. tx_ack_bits end ++ x) j)),
    )

-- a spelling that is cut into its parts
pub record TxSpellingParts (tx : Tx) (a r2 s r3 : List Bool) : Type 0 where
  pub asked : bits_of_request tx.request ≡ a
  pub seen : tx_ack_bits tx.result ≡ s
  pub last : Bool
  pub rest : r3 ≡ tx_tail_bits tx.request.read tx.result last

-- a transaction's bits, cut after 8, 9 and 12 bits, are its request, a turnaround, what was seen as its ACK, and
-- the bits after that
pub tx_spelling_split : (tx : Tx) (bits a r1 t r2 s r3 : List Bool) → length a ≡ 8 → length t ≡ 1 → length s ≡ 3 →
    bits ≡ a ++ r1 → r1 ≡ t ++ r2 → r2 ≡ s ++ r3 → SpellsTx tx bits → TxSpellingParts tx a r2 s r3
tx_spelling_split tx bits a r1 t r2 s r3 na nt ns g h i p =
    let first = tx_bits_split_same (bits_of_request tx.request) a (p.1 ∷ tx_ending_bits tx.request.read tx.result p.2)
    r1 (request_bits_length tx.request ∙ sym na) (sym p.3 ∙ g) in
    let second = tx_bits_split_same (p.1 ∷ []) t (tx_ending_bits tx.request.read tx.result p.2) r2 (sym nt)
    (first.1 ∙ h) in
    let third = tx_bits_split_same (tx_ack_bits tx.result) s (tx_tail_bits tx.request.read tx.result p.2) r3
    (tx_ack_bits_length tx.result ∙ sym ns) (second.1 ∙ i) in
    record { asked = first.0; seen = third.0; last = p.2; rest = sym third.1 }

-- requests with the same bits have the same direction
pub request_bits_same_direction : (q r : Request) → bits_of_request q ≡ bits_of_request r → q.read ≡ r.read
request_bits_same_direction q r e = cc

-- no transaction is shorter than twelve bits
pub tx_bits_at_least_12 : (tx : Tx) (bits : List Bool) → SpellsTx tx bits → 12 ≤ length bits
tx_bits_at_least_12 tx bits p =
    let n : length (bits_of_request tx.request) ≡ 8 = request_bits_length tx.request in
    let h : length (tx_ack_bits tx.result) ≡ 3 = tx_ack_bits_length tx.result in
    let e : length bits ≡ length (bits_of_request tx.request)
    + length (p.1 ∷ tx_ending_bits tx.request.read tx.result p.2) = ap length
    p.3 ∙ length-append (bits_of_request tx.request) _ in
    let f : length (tx_ending_bits tx.request.read tx.result p.2) ≡ length (tx_ack_bits tx.result) + length
    (tx_tail_bits tx.request.read tx.result p.2) = length-append (tx_ack_bits tx.result) _ in
    omega arith

length_tail : (read u : Bool) (end : TxEnd) → length (tx_tail_bits read end u) ≤ 34
length_tail read u (Moved word ok) = let e = length_moved read u (phase_with word ok) (data_phase_length_33 word ok) in
    omega arith
length_tail read u Wait = omega arith
length_tail read u Fault = omega arith
length_tail read u (NoAck seen) = omega arith

-- no transaction is longer than 46 bits
pub tx_bits_at_most_46 : (tx : Tx) (bits : List Bool) → SpellsTx tx bits → length bits ≤ 46
tx_bits_at_most_46 tx bits p =
    let n : length (bits_of_request tx.request) ≡ 8 = request_bits_length tx.request in
    let h : length (tx_ack_bits tx.result) ≡ 3 = tx_ack_bits_length tx.result in
    let m = length_tail tx.request.read p.2 tx.result in
    let e : length bits ≡ length (bits_of_request tx.request)
    + length (p.1 ∷ tx_ending_bits tx.request.read tx.result p.2) = ap length
    p.3 ∙ length-append (bits_of_request tx.request) _ in
    let f : length (tx_ending_bits tx.request.read tx.result p.2) ≡ length (tx_ack_bits tx.result) + length
    (tx_tail_bits tx.request.read tx.result p.2) = length-append (tx_ack_bits tx.result) _ in
    omega arith

-- the same acknowledgement is followed by as many bits
same_length : (q r u v : Bool) (a b : TxEnd) → IsTxEnd a → IsTxEnd b → tx_ack_bits a ≡ tx_ack_bits b
    → length (tx_tail_bits q a u) ≡ length (tx_tail_bits r b v)
same_length q r u v (Moved word ok) b f g e = tx_bits_after_ack_length AckOk q u (Moved word ok) f refl
    ∙ sym (tx_bits_after_ack_length AckOk r v b g (sym e))
same_length q r u v Wait b f g e = sym (tx_bits_after_ack_length AckWait r v b g (sym e))
same_length q r u v Fault b f g e = sym (tx_bits_after_ack_length AckFault r v b g (sym e))
same_length q r u v (NoAck m) (Moved word ok) f g e = absurd (ack_other m f AckOk e)
same_length q r u v (NoAck m) Wait f g e = absurd (ack_other m f AckWait e)
same_length q r u v (NoAck m) Fault f g e = absurd (ack_other m f AckFault e)
same_length q r u v (NoAck m) (NoAck n) f g e = refl

-- no spelling begins another
pub no_tx_bits_begin_another : (a b : Tx) (bits more : List Bool) → SpellsTx a bits → SpellsTx b (bits ++ more)
    → more ≡ []
no_tx_bits_begin_another a b bits more p q =
    let ta = tx_tail_bits a.request.read a.result p.2 in
    let tb = tx_tail_bits b.request.read b.result q.2 in
    let whole : bits_of_request a.request ++ (p.1 ∷ (tx_ack_bits a.result ++ (ta ++ more))) ≡ bits_of_request b.request
    ++ (q.1 ∷ (tx_ack_bits b.result ++ tb)) =
    ap (λ x. bits_of_request a.request ++ p.1 ∷ x) (sym (append_assoc (tx_ack_bits a.result) ta more))
    ∙ sym (append_assoc (bits_of_request a.request) (p.1 ∷ (tx_ack_bits a.result ++ ta)) more)
    ∙ ap (λ x. x ++ more) (sym p.3) ∙ q.3 in
    let first = tx_bits_split_same (bits_of_request a.request) (bits_of_request b.request) _ _
    (request_bits_length a.request ∙ sym (request_bits_length b.request)) whole in
    let second = tx_bits_split_same (p.1 ∷ []) (q.1 ∷ []) (tx_ack_bits a.result ++ (ta ++ more))
    (tx_ack_bits b.result ++ tb) refl first.1 in
    let third = tx_bits_split_same (tx_ack_bits a.result) (tx_ack_bits b.result) (ta ++ more) tb
    (tx_ack_bits_length a.result ∙ sym (tx_ack_bits_length b.result)) second.1 in
    let n : length (ta ++ more) ≡ length ta + length more = length-append ta more in
    let m : length (ta ++ more) ≡ length tb = ap length third.1 in
    let k : length ta ≡ length tb = same_length a.request.read b.request.read p.2 q.2 a.result b.result p.0 q.0
    third.0 in
    tx_bits_no_bit more (omega arith)

same_reg4 : (a b : Reg4) (x y : List Bool) → addr_bits a ++ x ≡ addr_bits b ++ y → a ≡ b
same_reg4 R0 R0 x y e = refl
same_reg4 R0 R4 x y e = absurd cc
same_reg4 R0 R8 x y e = absurd cc
same_reg4 R0 RC x y e = absurd cc
same_reg4 R4 R0 x y e = absurd cc
same_reg4 R4 R4 x y e = refl
same_reg4 R4 R8 x y e = absurd cc
same_reg4 R4 RC x y e = absurd cc
same_reg4 R8 R0 x y e = absurd cc
same_reg4 R8 R4 x y e = absurd cc
same_reg4 R8 R8 x y e = refl
same_reg4 R8 RC x y e = absurd cc
same_reg4 RC R0 x y e = absurd cc
same_reg4 RC R4 x y e = absurd cc
same_reg4 RC R8 x y e = absurd cc
same_reg4 RC RC x y e = refl

abbrev request_of : Bool → Bool → Reg4 → Request
request_of port direction register = record { ap = port; read = direction; addr = register }

-- requests with the same bits are one
pub request_bits_injective : (q r : Request) → bits_of_request q ≡ bits_of_request r → q ≡ r
request_bits_injective q r e =
    let port : q.ap ≡ r.ap = cc in
    let direction : q.read ≡ r.read = cc in
    let tails : drop 3 (bits_of_request q) ≡ drop 3 (bits_of_request r) = ap (drop 3) e in
    let register : q.addr ≡ r.addr = same_reg4 q.addr r.addr
    (odd (q.ap ∷ q.read ∷ addr_bits q.addr) ∷ false ∷ true ∷ [])
    (odd (r.ap ∷ r.read ∷ addr_bits r.addr) ∷ false ∷ true ∷ []) tails in
    ap (λ x. request_of x q.read q.addr) port ∙ ap (λ x. request_of r.ap x q.addr) direction
    ∙ ap (request_of r.ap r.read) register

below_8 : (n : ℕ) → IsTxEnd (NoAck n) → n < 8
below_8 n h = elim h [
  | inl z ↦ omega arith
  | inr h ↦ elim h [
    | inl z ↦ omega arith
    | inr h ↦ elim h [
      | inl z ↦ omega arith
      | inr h ↦ elim h [ inl z ↦ omega arith | inr z ↦ omega arith ]
    ]
  ]
]

parity_right : (odd a b : Bool) → (if a then odd else not odd) ≡ (if b then odd else not odd) → a ≡ b
parity_right odd true true e = refl
parity_right true true false e = absurd cc
parity_right false true false e = absurd cc
parity_right true false true e = absurd cc
parity_right false false true e = absurd cc
parity_right odd false false e = refl

abbrev first_or : List Bool → Bool
first_or [] = false
first_or (b ∷ bits) = b

-- phases with the same bits have the same word, and the same parity
same_phase : (v w : ℕ) (a b : Bool) → v < 2 ^ 32 → w < 2 ^ 32 → phase_with v a ≡ phase_with w b → Moved v a ≡ Moved w b
unfolding phase_with
same_phase v w a b h k e =
    let parts = tx_bits_split_same (low_bits 32 v) (low_bits 32 w) _ _
    (length-low_bits 32 v ∙ sym (length-low_bits 32 w)) e in
    let word : v ≡ w = low_bits_injective 32 v w h k parts.0 in
    let right : a ≡ b = parity_right (odd (low_bits 32 w)) a b (rw word at (ap first_or parts.1)) in
    ap₂ Moved word right

same_moved : (read t u : Bool) (p q : List Bool) → length p ≡ length q
    → moved_data_phase read t p ≡ moved_data_phase read u q → p ≡ q
same_moved true t u p q h e = let parts = tx_bits_split_same p q (t ∷ []) (u ∷ []) h e in parts.0
same_moved false t u p q h e = cc

-- what follows the request says how the transaction ended
same_end : (read t u : Bool) (a b : TxEnd) → IsTxEnd a → IsTxEnd b → tx_ack_bits a ≡ tx_ack_bits b
    → tx_tail_bits read a t ≡ tx_tail_bits read b u → a ≡ b
same_end read t u (Moved v x) (Moved w y) h k e f =
    same_phase v w x y h k (same_moved read t u (phase_with v x) (phase_with w y)
    (data_phase_length_33 v x ∙ sym (data_phase_length_33 w y)) f)
same_end read t u (Moved v x) Wait h k e f = absurd cc
same_end read t u (Moved v x) Fault h k e f = absurd cc
same_end read t u (Moved v x) (NoAck n) h k e f = absurd (ack_other n k AckOk (sym e))
same_end read t u Wait (Moved w y) h k e f = absurd cc
same_end read t u Wait Wait h k e f = refl
same_end read t u Wait Fault h k e f = absurd cc
same_end read t u Wait (NoAck n) h k e f = absurd (ack_other n k AckWait (sym e))
same_end read t u Fault (Moved w y) h k e f = absurd cc
same_end read t u Fault Wait h k e f = absurd cc
same_end read t u Fault Fault h k e f = refl
same_end read t u Fault (NoAck n) h k e f = absurd (ack_other n k AckFault (sym e))
same_end read t u (NoAck m) (Moved w y) h k e f = absurd (ack_other m h AckOk e)
same_end read t u (NoAck m) Wait h k e f = absurd (ack_other m h AckWait e)
same_end read t u (NoAck m) Fault h k e f = absurd (ack_other m h AckFault e)
same_end read t u (NoAck m) (NoAck n) h k e f = ap NoAck (low_bits_injective 3 m n (below_8 m h) (below_8 n k) e)

abbrev tx_of : Request → TxEnd → Tx
tx_of q end = record { request = q; result = end }

-- transactions with the same bits are one
pub tx_bits_injective : (a b : Tx) (bits : List Bool) → SpellsTx a bits → SpellsTx b bits → a ≡ b
tx_bits_injective a b bits p q =
    let first = tx_bits_split_same (bits_of_request a.request) (bits_of_request b.request)
    (p.1 ∷ tx_ending_bits a.request.read a.result p.2) (q.1 ∷ tx_ending_bits b.request.read b.result q.2)
    (request_bits_length a.request ∙ sym (request_bits_length b.request)) (sym p.3 ∙ q.3) in
    let asked : a.request ≡ b.request = request_bits_injective a.request b.request first.0 in
    let second = tx_bits_split_same (p.1 ∷ []) (q.1 ∷ []) (tx_ending_bits a.request.read a.result p.2)
    (tx_ending_bits b.request.read b.result q.2) refl first.1 in
    let third = tx_bits_split_same (tx_ack_bits a.result) (tx_ack_bits b.result)
    (tx_tail_bits a.request.read a.result p.2) (tx_tail_bits b.request.read b.result q.2)
    (tx_ack_bits_length a.result ∙ sym (tx_ack_bits_length b.result)) second.1 in
    let tails : tx_tail_bits a.request.read a.result p.2 ≡ tx_tail_bits a.request.read b.result q.2 =
    third.1 ∙ ap (λ r. tx_tail_bits r b.result q.2) (ap (λ (x : Request). x.read) (sym asked)) in
    let ended : a.result ≡ b.result = same_end a.request.read p.2 q.2 a.result b.result p.0 q.0 third.0 tails in
    ap (λ x. tx_of x a.result) asked ∙ ap (tx_of b.request) ended
