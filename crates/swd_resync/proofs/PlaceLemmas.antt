-- Laws of the places where no stretch begins, and of those where one may.
use Rattle.std.proofs.Common.{take, subst, ◌≢◌, ◌⊎◌, ◌≡◌, ℕ, zero, suc, ◌+◌, ◌-◌, ◌*◌, ◌/◌, ◌%◌, ◌^◌, ◌<◌, ◌≤◌}
use Rattle.std.proofs.Common.{Bool, true, false, List, [], ◌∷◌, ◌++◌, length, replicate, nat_le, append_assoc}
use Rattle.std.proofs.Common.{bit_and, refl, sym, ap, ◌∙◌, arith, inl, inr, bit_or, bit_xor}
use Rattle.std.specs.Prelude.{◌==◌}
use Rattle.std.specs.Int.{bit_at, bit_not, w64}
use Rattle.std.proofs.lemmas.Bool.{cases_lt, leb-true, or_cases, eqb-true}
use Rattle.std.proofs.lemmas.Nat.{or_lt, xor_lt, and_le_l, shr_le, shr-shr}
use Rattle.std.proofs.lemmas.Nat.Bits.{bit_at_or, bit_at_xor, bit_at_not, bit_at_above, bit_at-suc, bit_at-lt}
use Rattle.std.proofs.lemmas.Nat.Bits.{bit_at_and, bit_at_lowest}
use Rattle.std.proofs.lemmas.List.{append-nil, take_at}
use lib.Count.{count_trailing_zeros}
use Rattle.swd_bits.specs.Bits.{low_bits, bit}
use Rattle.swd_bits.specs.Wire.{bits_of_request}
use Rattle.swd_bits.specs.Acks.{bits_of_ack}
use Rattle.swd_bits.specs.declared.ack.Ack.{Ack}
use Rattle.swd_bits.specs.declared.ack.Ack.TheVariants.{Ok as AckOk, Wait as AckWait, Fault as AckFault}
use Rattle.swd_bits.specs.Transactions.{tx_ending_bits}
use Rattle.swd_bits.specs.declared.request.Request.{Request}
use Rattle.swd_bits.specs.declared.request.Reg4.{Reg4}
use Rattle.swd_bits.specs.declared.request.Reg4.TheVariants.{R0, R4, R8, RC}
use Rattle.swd_bits.specs.declared.tx.TxEnd.{TxEnd}
use Rattle.swd_bits.proofs.BitsLemmas.{length-low_bits}
use Rattle.swd_bits.proofs.TxLemmas.{request_bits_length}
use Rattle.swd_bits.specs.declared.tx.TxEnd.TheVariants.{Moved, Wait, Fault, NoAck}
use Rattle.swd_trace.specs.Reading.{trace_ones, trace_all_ones}
use Rattle.swd_trace.proofs.NumberLemmas.{decoder_bits_next, decoder_zeros_at_front, decoder_bits_parted}
use Rattle.swd_trace.proofs.NumberLemmas.{decoder_bits_mod}
use Rattle.swd_trace.proofs.ReadingLemmas.{trace_bit_cases, trace_ones_end_at_zero}
use Rattle.swd_resync.specs.Parts.{begins_stretch, stretch_gap, pair, resync_is_sound}
use Rattle.swd_resync.proofs.PairLemmas.{pair_found}
use Rattle.swd_resync.proofs.StepLemmas.{stretch_gap_none}

-- ---- one of the bits

-- the bit with this number, the first being number 0
abbrev nth : ℕ → List Bool → Bool
nth i [] = false
nth zero (b ∷ bits) = b
nth (suc i) (b ∷ bits) = nth i bits

-- it is that of the number
nth_low : (i n v : ℕ) (back : List Bool) → i < n → nth i (low_bits n v ++ back) ≡ (bit_at v i == 1)
unfolding low_bits
nth_low i zero v back h = absurd (omega arith)
nth_low zero (suc n) v back h = ap (λ d. d == 1) (sym (bit_at_lowest v))
nth_low (suc i) (suc n) v back h = nth_low i n (v / 2) back (omega arith) ∙ ap (λ d. d == 1) (sym (bit_at-suc v i))

-- bits that are ones
nth_ones : (i : ℕ) (bits : List Bool) → i < trace_ones bits → nth i bits ≡ true
nth_ones i [] h = absurd (omega arith)
nth_ones i (false ∷ bits) h = absurd (omega arith)
nth_ones zero (true ∷ bits) h = refl
nth_ones (suc i) (true ∷ bits) h = nth_ones i bits (omega arith)

zero_of : (d : ℕ) → d < 2 → (d == 1) ≡ false → d ≡ 0
zero_of zero h e = refl
zero_of (suc zero) h e = absurd cc
zero_of (suc (suc d)) h e = absurd (omega arith)

nth_zeros : (i n : ℕ) → nth i (replicate n false) ≡ false
nth_zeros i zero = refl
nth_zeros zero (suc n) = refl
nth_zeros (suc i) (suc n) = nth_zeros i n

-- the bits below the trailing zeros' number are zeros
pub resync_zero_below_mark : (k v i : ℕ) → i < count_trailing_zeros k v → bit_at v i ≡ 0
resync_zero_below_mark k v i h =
    let none : low_bits (suc i) v ≡ replicate (suc i) false = decoder_zeros_at_front k (suc i) v (omega arith) in
    zero_of (bit_at v i) (bit_at-lt v i) (sym (nth_low i (suc i) v [] (omega arith))
    ∙ ap (nth i) (append-nil (low_bits (suc i) v) ∙ none) ∙ nth_zeros i (suc i))

-- ---- the bits of a pair

-- the bits begin with a request, and a sound transaction is behind it
record Asks (bits : List Bool) : Type 0 where
  asked : Request
  turn : Bool
  end : TxEnd
  last : Bool
  more : List Bool
  right : resync_is_sound end ≡ true
  split : bits ≡ bits_of_request asked ++ turn ∷ (tx_ending_bits asked.read end last ++ more)

pair_asks : (over : Bool) (bits : List Bool) → pair over bits ≡ true → Asks bits
pair_asks over bits e =
    let p = pair_found over bits e in
    let tx = p.0 in
    let shows = p.7 in
    let spelled = shows.3.3 in
    let t = shows.3.1 in
    let u = shows.3.2 in
    let behind : List Bool = t ∷ tx_ending_bits tx.request.read tx.result u in
    let rest : List Bool = replicate p.3 false ++ (p.4 ++ p.5) in
    record {
      asked = tx.request;
      turn = t;
      end = tx.result;
      last = u;
      more = shows.1 ++ rest;
      right = p.8;
      split = p.6 ∙ ap (λ x. x ++ rest) (shows.2 ∙ ap (λ x. x ++ shows.1) spelled)
          ∙ append_assoc (bits_of_request tx.request ++ behind) shows.1 rest
          ∙ append_assoc (bits_of_request tx.request) behind (shows.1 ++ rest);
    }

first_eight : (byte : ℕ) (back front rest : List Bool) → low_bits 8 byte ++ back ≡ front ++ rest → length front ≡ 8
    → low_bits 8 byte ≡ front
first_eight byte back front rest e n =
    sym (take_at (low_bits 8 byte) back 8 (length-low_bits 8 byte)) ∙ ap (take 8) e ∙ take_at front rest 8 n

-- where these eight bits are no request, no pair begins
pub no_pair_without_request : (over : Bool) (len v : ℕ) (back : List Bool) → 8 ≤ len
    → ((q : Request) → bits_of_request q ≢ low_bits 8 (v % 2 ^ 8)) → pair over (low_bits len v ++ back) ≡ false
no_pair_without_request over len v back some none = elim (trace_bit_cases (pair over (low_bits len v ++ back))) [
  | inr none_here ↦ none_here
  | inl here ↦
      let a = pair_asks over (low_bits len v ++ back) here in
      let others : List Bool = low_bits (len - 8) (v / 2 ^ 8) in
      let eight : low_bits len v ++ back ≡ low_bits 8 (v % 2 ^ 8) ++ (others ++ back) =
      ap (λ x. x ++ back) (decoder_bits_parted 8 len v some ∙ ap (λ x. x ++ others) (sym (decoder_bits_mod 8 v)))
      ∙ append_assoc (low_bits 8 (v % 2 ^ 8)) others back in
      absurd (none a.asked (sym (first_eight (v % 2 ^ 8) (others ++ back) (bits_of_request a.asked) _
      (sym eight ∙ a.split) (request_bits_length a.asked))))
]

-- exactly one of three bits is a one
abbrev IsAcked : List Bool → Type 0
IsAcked bits = (nth 9 bits ≡ true) × (nth 10 bits ≡ false) × (nth 11 bits ≡ false)
    ⊎ (nth 9 bits ≡ false) × (nth 10 bits ≡ true) × (nth 11 bits ≡ false)
    ⊎ (nth 9 bits ≡ false) × (nth 10 bits ≡ false) × (nth 11 bits ≡ true)

-- the three bits behind a request and a turnaround
behind_request : (port read : Bool) (addr : Reg4) (t : Bool) (back : List Bool)
    → (nth 9 (bits_of_request (record { ap = port; read = read; addr = addr }) ++ t ∷ back) ≡ nth 0 back)
    × (nth 10 (bits_of_request (record { ap = port; read = read; addr = addr }) ++ t ∷ back) ≡ nth 1 back)
    × (nth 11 (bits_of_request (record { ap = port; read = read; addr = addr }) ++ t ∷ back) ≡ nth 2 back)
behind_request port read R0 t back = (refl, refl, refl)
behind_request port read R4 t back = (refl, refl, refl)
behind_request port read R8 t back = (refl, refl, refl)
behind_request port read RC t back = (refl, refl, refl)

acked : (q : Request) (t u : Bool) (end : TxEnd) (more : List Bool) → resync_is_sound end ≡ true
    → IsAcked (bits_of_request q ++ t ∷ (tx_ending_bits q.read end u ++ more))
acked q t u (Moved word ok) more e = inl (behind_request q.ap q.read q.addr t
    (tx_ending_bits q.read (Moved word ok) u ++ more))
acked q t u Wait more e = inr (inl (behind_request q.ap q.read q.addr t (tx_ending_bits q.read Wait u ++ more)))
acked q t u Fault more e = inr (inr (behind_request q.ap q.read q.addr t (tx_ending_bits q.read Fault u ++ more)))
acked q t u (NoAck seen) more e = absurd cc

not_acked : (over : Bool) (len v : ℕ) (back : List Bool) → 12 ≤ len → v / 2 ^ 9 % 8 ≢ 1 → v / 2 ^ 9 % 8 ≢ 2
    → v / 2 ^ 9 % 8 ≢ 4 → pair over (low_bits len v ++ back) ≡ false
not_acked over len v back some ok wait fault = elim (trace_bit_cases (pair over (low_bits len v ++ back))) [
  | inr none_here ↦ none_here
  | inl here ↦
      let bits : List Bool = low_bits len v ++ back in
      let a = pair_asks over bits here in
      let sum : v / 2 ^ 9 % 8 ≡ bit_at v 9 + 2 * bit_at v 10 + 4 * bit_at v 11 = omega arith in
      let one : (i : ℕ) → i < 12 → nth i bits ≡ true → bit_at v i ≡ 1 =
      λ i l t. eqb-true _ _ (sym (nth_low i len v back (omega arith)) ∙ t) in
      let none : (i : ℕ) → i < 12 → nth i bits ≡ false → bit_at v i ≡ 0 =
      λ i l t. zero_of (bit_at v i) (bit_at-lt v i) (sym (nth_low i len v back (omega arith)) ∙ t) in
      elim (subst IsAcked (sym a.split) (acked a.asked a.turn a.last a.end a.more a.right)) [
        | inl x ↦ absurd (ok (omega (
          arith,
          sum,
          one 9 (omega arith) x.0,
          none 10 (omega arith) x.1,
          none 11 (omega arith) x.2,
        )))
        | inr y ↦ elim y [
          | inl x ↦ absurd (wait (omega (
            arith,
            sum,
            none 9 (omega arith) x.0,
            one 10 (omega arith) x.1,
            none 11 (omega arith) x.2,
          )))
          | inr x ↦ absurd (fault (omega (
            arith,
            sum,
            none 9 (omega arith) x.0,
            none 10 (omega arith) x.1,
            one 11 (omega arith) x.2,
          )))
        ]
      ]
]

-- where these three bits are no acknowledgement, no pair begins
pub no_pair_without_ack : (over : Bool) (len v : ℕ) (back : List Bool) → 12 ≤ len
    → ((a : Ack) → bits_of_ack a ≢ low_bits 3 (v / 2 ^ 9 % 8)) → pair over (low_bits len v ++ back) ≡ false
unfolding low_bits
no_pair_without_ack over len v back some none =
    not_acked over len v back some (λ e. none AckOk (sym (ap (low_bits 3) e)))
    (λ e. none AckWait (sym (ap (low_bits 3) e))) (λ e. none AckFault (sym (ap (low_bits 3) e)))

-- no stretch begins with fewer than fifty bits among which is a zero, unless a pair does
pub no_stretch_without_pair : (over : Bool) (len v : ℕ) (back : List Bool) → len ≤ 50
    → trace_all_ones (low_bits len v) ≡ false
    → pair over (low_bits len v ++ back) ≡ false → begins_stretch over (low_bits len v ++ back) ≡ false
no_stretch_without_pair over len v back most zero_among none =
    elim (trace_bit_cases (begins_stretch over (low_bits len v ++ back))) [
      | inr none_here ↦ none_here
      | inl here ↦
          let bits : List Bool = low_bits len v ++ back in
          elim (or_cases (nat_le 50 (trace_ones bits)) (pair over bits) here) [
            | inl many ↦
                let l : length (low_bits len v) ≡ len = length-low_bits len v in
                let o = trace_ones_end_at_zero (low_bits len v) back zero_among in
                let fifty : 50 ≤ trace_ones (low_bits len v ++ back) =
                leb-true 50 (trace_ones (low_bits len v ++ back)) many in
                let few : trace_ones (low_bits len v) < length (low_bits len v) = o.1.1 in
                let same = o.0 in
                absurd (omega arith)
            | inr both ↦ let both_ways : true ≡ false = sym both ∙ none in absurd cc
          ]
    ]

-- ---- the places where a stretch may begin

-- the bits of a request, as numbers
record IsAsked (bits : List Bool) : Type 0 where
  start : bit (nth 0 bits) ≡ 1
  even : (bit (nth 1 bits) + bit (nth 2 bits) + bit (nth 3 bits) + bit (nth 4 bits) + bit (nth 5 bits)) % 2 ≡ 0
  stop : bit (nth 6 bits) ≡ 0
  park : bit (nth 7 bits) ≡ 1

asked_bits : (port read : Bool) (addr : Reg4) (back : List Bool)
    → IsAsked (bits_of_request (record { ap = port; read = read; addr = addr }) ++ back)
asked_bits false false R0 back = record { start = refl; even = refl; stop = refl; park = refl }
asked_bits false false R4 back = record { start = refl; even = refl; stop = refl; park = refl }
asked_bits false false R8 back = record { start = refl; even = refl; stop = refl; park = refl }
asked_bits false false RC back = record { start = refl; even = refl; stop = refl; park = refl }
asked_bits false true R0 back = record { start = refl; even = refl; stop = refl; park = refl }
asked_bits false true R4 back = record { start = refl; even = refl; stop = refl; park = refl }
asked_bits false true R8 back = record { start = refl; even = refl; stop = refl; park = refl }
asked_bits false true RC back = record { start = refl; even = refl; stop = refl; park = refl }
asked_bits true false R0 back = record { start = refl; even = refl; stop = refl; park = refl }
asked_bits true false R4 back = record { start = refl; even = refl; stop = refl; park = refl }
asked_bits true false R8 back = record { start = refl; even = refl; stop = refl; park = refl }
asked_bits true false RC back = record { start = refl; even = refl; stop = refl; park = refl }
asked_bits true true R0 back = record { start = refl; even = refl; stop = refl; park = refl }
asked_bits true true R4 back = record { start = refl; even = refl; stop = refl; park = refl }
asked_bits true true R8 back = record { start = refl; even = refl; stop = refl; park = refl }
asked_bits true true RC back = record { start = refl; even = refl; stop = refl; park = refl }

one_seen : (bits : List Bool) → IsAcked bits → bit (nth 9 bits) + bit (nth 10 bits) + bit (nth 11 bits) ≡ 1
one_seen bits (inl x) = omega (arith, ap bit x.0, ap bit x.1, ap bit x.2)
one_seen bits (inr (inl x)) = omega (arith, ap bit x.0, ap bit x.1, ap bit x.2)
one_seen bits (inr (inr x)) = omega (arith, ap bit x.0, ap bit x.1, ap bit x.2)

bit_of : (d : ℕ) → d < 2 → bit (d == 1) ≡ d
bit_of zero h = refl
bit_of (suc zero) h = refl
bit_of (suc (suc d)) h = absurd (omega arith)

-- each of the bits is that of the number, and those of the number past the count are zeros
bit_low : (i n v : ℕ) (back : List Bool) → i < n → bit_at v i ≡ bit (nth i (low_bits n v ++ back))
bit_low i n v back h = sym (ap bit (nth_low i n v back h) ∙ bit_of (bit_at v i) (bit_at-lt v i))

bit_most : (i n v : ℕ) (back : List Bool) → v < 2 ^ n → bit_at v i ≤ bit (nth i (low_bits n v ++ back))
bit_most i n v back fits = elim (cases_lt i n) [
  | inl here ↦ let same = bit_low i n v back here in omega arith
  | inr past ↦ let none = bit_at_above v n i fits past in omega arith
]

same_place : (v k i : ℕ) → bit_at (v / 2 ^ k) i ≡ bit_at (v / 2 ^ i) k
same_place v k i = ap (λ x. x % 2) (shr-shr v k i ∙ ap (λ n. v / 2 ^ n) (omega arith) ∙ sym (shr-shr v i k))

and_ones : (a b i : ℕ) → bit_at a i ≡ 1 → bit_at b i ≡ 1 → bit_at (bit_and a b) i ≡ 1
and_ones a b i p q = omega (arith, bit_at_and a b i)

and_few : (a b i : ℕ) → bit_at a i + bit_at b i ≤ 1 → bit_at (bit_and a b) i ≡ 0
and_few a b i p = omega (arith, bit_at_and a b i)

or_first : (a b i : ℕ) → bit_at a i ≡ 1 → bit_at (bit_or a b) i ≡ 1
or_first a b i p = omega (arith, bit_at_or a b i, bit_at-lt b i)

or_second : (a b i : ℕ) → bit_at b i ≡ 1 → bit_at (bit_or a b) i ≡ 1
or_second a b i p = omega (arith, bit_at_or a b i, bit_at-lt a i)

or_none : (a b i : ℕ) → bit_at a i ≡ 0 → bit_at b i ≡ 0 → bit_at (bit_or a b) i ≡ 0
or_none a b i p q = omega (arith, bit_at_or a b i)

-- the numbers that the code makes of the bits
abbrev pub stretch_run_marks : ℕ → ℕ
stretch_run_marks v = bit_and (bit_and (bit_and (bit_and (bit_and (v / 2 ^ 1) (v / 2 ^ 2)) (v / 2 ^ 3)) (v / 2 ^ 4))
    (v / 2 ^ 5)) (v / 2 ^ 6)

abbrev pub stretch_odd_marks : ℕ → ℕ
stretch_odd_marks v = bit_xor (bit_xor (bit_xor (bit_xor (v / 2 ^ 1) (v / 2 ^ 2)) (v / 2 ^ 3)) (v / 2 ^ 4)) (v / 2 ^ 5)

abbrev pub stretch_several_marks : ℕ → ℕ
stretch_several_marks v = bit_or (bit_and (v / 2 ^ 9) (v / 2 ^ 10))
    (bit_and (bit_or (v / 2 ^ 9) (v / 2 ^ 10)) (v / 2 ^ 11))

abbrev pub stretch_wrong_marks : ℕ → ℕ
stretch_wrong_marks v = bit_or (bit_or (v / 2 ^ 6) (stretch_odd_marks v)) (stretch_several_marks v)

abbrev pub stretch_place_marks : ℕ → ℕ
stretch_place_marks v = bit_and (bit_and v (v / 2 ^ 7))
    (bit_or (stretch_run_marks v) (bit_not w64 (stretch_wrong_marks v)))

small : (v k : ℕ) → v < 2 ^ 64 → v / 2 ^ k < 2 ^ 64
small v k h = let less = shr_le v k in omega arith

wrong_fits : (v : ℕ) → v < 2 ^ 64 → stretch_wrong_marks v < 2 ^ 64
wrong_fits v h =
    let s = small v in
    or_lt 64 _ _ (or_lt 64 _ _ (s 6 h) (xor_lt 64 _ _ (xor_lt 64 _ _ (xor_lt 64 _ _ (xor_lt 64 _ _ (s 1 h) (s 2 h))
    (s 3 h)) (s 4 h)) (s 5 h)))
    (or_lt 64 _ _ (and_lt (v / 2 ^ 9) (v / 2 ^ 10) (s 9 h))
    (and_lt (bit_or (v / 2 ^ 9) (v / 2 ^ 10)) (v / 2 ^ 11) (or_lt 64 _ _ (s 9 h) (s 10 h))))
  where
    and_lt : (a b : ℕ) → a < 2 ^ 64 → bit_and a b < 2 ^ 64
    and_lt a b h = let less = and_le_l a b in omega arith

-- a run of ones is marked
run_marked : (v i : ℕ) → ((k : ℕ) → k < 8 → bit_at (v / 2 ^ k) i ≡ 1) → bit_at (stretch_run_marks v) i ≡ 1
run_marked v i one =
    and_ones _ _ i (and_ones _ _ i (and_ones _ _ i (and_ones _ _ i (and_ones _ _ i (one 1 (omega arith))
    (one 2 (omega arith))) (one 3 (omega arith))) (one 4 (omega arith))) (one 5 (omega arith))) (one 6 (omega arith))

even_marked : (v i : ℕ) → (bit_at (v / 2 ^ 1) i + bit_at (v / 2 ^ 2) i + bit_at (v / 2 ^ 3) i + bit_at (v / 2 ^ 4) i
    + bit_at (v / 2 ^ 5) i) % 2 ≡ 0 → bit_at (stretch_odd_marks v) i ≡ 0
even_marked v i even =
    let a : ℕ = bit_xor (v / 2 ^ 1) (v / 2 ^ 2) in
    let b : ℕ = bit_xor a (v / 2 ^ 3) in
    let c : ℕ = bit_xor b (v / 2 ^ 4) in
    by _ _ _ _ _ (bit_at a i) (bit_at b i) (bit_at c i) (bit_at (stretch_odd_marks v) i) even
    (bit_at_xor (v / 2 ^ 1) (v / 2 ^ 2) i) (bit_at_xor a (v / 2 ^ 3) i) (bit_at_xor b (v / 2 ^ 4) i)
    (bit_at_xor c (v / 2 ^ 5) i)
  where
    by : (p q r s t a b c d : ℕ) → (p + q + r + s + t) % 2 ≡ 0 → a ≡ (p + q) % 2 → b ≡ (a + r) % 2 → c ≡ (b + s) % 2
        → d ≡ (c + t) % 2 → d ≡ 0
    by p q r s t a b c d even ea eb ec ed = omega arith

few_marked : (v i : ℕ) → bit_at (v / 2 ^ 9) i + bit_at (v / 2 ^ 10) i + bit_at (v / 2 ^ 11) i ≤ 1
    → bit_at (stretch_several_marks v) i ≡ 0
few_marked v i few =
    or_none (bit_and (v / 2 ^ 9) (v / 2 ^ 10)) (bit_and (bit_or (v / 2 ^ 9) (v / 2 ^ 10)) (v / 2 ^ 11)) i
    (and_few (v / 2 ^ 9) (v / 2 ^ 10) i (omega arith))
    (and_few (bit_or (v / 2 ^ 9) (v / 2 ^ 10)) (v / 2 ^ 11) i
    (let either = bit_at_or (v / 2 ^ 9) (v / 2 ^ 10) i in omega arith))

-- where a stretch begins, the place is marked
place_marked : (over : Bool) (len v i : ℕ) (back : List Bool) → v < 2 ^ 64 → 8 ≤ len → i + len ≤ 64
    → v / 2 ^ i < 2 ^ len
    → begins_stretch over (low_bits len (v / 2 ^ i) ++ back) ≡ true → bit_at (stretch_place_marks v) i ≡ 1
place_marked over len v i back h some within fits e =
    elim (or_cases (nat_le 50 (trace_ones bits)) (pair over bits) e) [
      | inl many ↦
          let fifty : 50 ≤ trace_ones bits = leb-true 50 (trace_ones bits) many in
          let one : (k : ℕ) → k < 8 → bit_at (v / 2 ^ k) i ≡ 1 =
          λ k l. equal k l ∙ ap bit (nth_ones k bits (omega arith)) in
          and_ones _ _ i (and_ones v _ i (start ∙ one 0 (omega arith)) (one 7 (omega arith)))
          (or_first _ (bit_not w64 (stretch_wrong_marks v)) i (run_marked v i one))
      | inr both ↦
          let a = pair_asks over bits both in
          let behind : List Bool = a.turn ∷ (tx_ending_bits a.asked.read a.end a.last ++ a.more) in
          let asked : IsAsked bits =
          subst IsAsked (sym a.split) (asked_bits a.asked.ap a.asked.read a.asked.addr behind) in
          let seen = one_seen bits (subst IsAcked (sym a.split) (acked a.asked a.turn a.last a.end a.more a.right)) in
          let even : bit_at (stretch_odd_marks v) i ≡ 0 =
          even_marked v i (omega (
            arith,
            asked.even,
            equal 1 (omega arith),
            equal 2 (omega arith),
            equal 3 (omega arith),
            equal 4 (omega arith),
            equal 5 (omega arith),
          )) in
          let few : bit_at (stretch_several_marks v) i ≡ 0 =
          few_marked v i (omega (arith, seen, most 9, most 10, most 11)) in
          let none : bit_at (stretch_wrong_marks v) i ≡ 0 =
          or_none _ _ i (or_none _ _ i (equal 6 (omega arith) ∙ asked.stop) even) few in
          let right : bit_at (bit_not w64 (stretch_wrong_marks v)) i ≡ 1 =
          bit_at_not w64 (stretch_wrong_marks v) i (wrong_fits v h) (omega arith) ∙ ap (λ d. 1 - d) none in
          and_ones _ _ i (and_ones v _ i (start ∙ equal 0 (omega arith) ∙ asked.start)
          (equal 7 (omega arith) ∙ asked.park)) (or_second (stretch_run_marks v) _ i right)
    ]
  where
    bits : List Bool
    bits = low_bits len (v / 2 ^ i) ++ back

    start : bit_at v i ≡ bit_at (v / 2 ^ 0) i
    start = let same : v ≡ v / 2 ^ 0 = omega arith in ap (λ x. bit_at x i) same

    equal : (k : ℕ) → k < 8 → bit_at (v / 2 ^ k) i ≡ bit (nth k bits)
    equal k l = same_place v k i ∙ bit_low k len (v / 2 ^ i) back (omega arith)

    most : (k : ℕ) → bit_at (v / 2 ^ k) i ≤ bit (nth k bits)
    most k = let same = same_place v k i in let less = bit_most k len (v / 2 ^ i) back fits in omega arith

-- no stretch begins at a place that isn't marked
pub no_stretch_unless_marked : (over : Bool) (len v i : ℕ) (back : List Bool) → v < 2 ^ 64 → 8 ≤ len → i + len ≤ 64
    → v / 2 ^ i < 2 ^ len → bit_at (stretch_place_marks v) i ≡ 0
    → begins_stretch over (low_bits len (v / 2 ^ i) ++ back) ≡ false
no_stretch_unless_marked over len v i back h some within fits none =
    elim (trace_bit_cases (begins_stretch over (low_bits len (v / 2 ^ i) ++ back))) [
      | inr none_here ↦ none_here
      | inl here ↦ let marked = place_marked over len v i back h some within fits here in absurd (omega arith)
    ]

-- ---- the bits before a stretch

-- the first of these bits comes before the next stretch if no stretch begins with them
pub one_bit_before_stretch : (over : Bool) (m v : ℕ) (back : List Bool) → 0 < m
    → begins_stretch over (low_bits m v ++ back) ≡ false
    → stretch_gap over (low_bits m v ++ back) ≡ 1 + stretch_gap over (low_bits (m - 1) (v / 2) ++ back)
one_bit_before_stretch over m v back some none =
    let next : low_bits m v ≡ (v % 2 == 1) ∷ low_bits (m - 1) (v / 2) = decoder_bits_next m v some in
    let no : begins_stretch over ((v % 2 == 1) ∷ (low_bits (m - 1) (v / 2) ++ back)) ≡ false =
    sym (ap (λ x. begins_stretch over (x ++ back)) next) ∙ none in
    let g = stretch_gap_none over (v % 2 == 1) (low_bits (m - 1) (v / 2) ++ back) no in
    ap (λ x. stretch_gap over (x ++ back)) next ∙ g ∙ omega arith

-- some bits come before the next stretch if no stretch begins at any of them
pub many_bits_before_stretch : (over : Bool) (n m v : ℕ) (back : List Bool) → n ≤ m
    → ((i : ℕ) → i < n → begins_stretch over (low_bits (m - i) (v / 2 ^ i) ++ back) ≡ false)
    → stretch_gap over (low_bits m v ++ back) ≡ n + stretch_gap over (low_bits (m - n) (v / 2 ^ n) ++ back)
many_bits_before_stretch over zero m v back some none =
    let all : m ≡ m - 0 = omega arith in
    let same : v ≡ v / 2 ^ 0 = omega arith in
    let kept : stretch_gap over (low_bits m v ++ back) ≡ stretch_gap over (low_bits (m - 0) (v / 2 ^ 0) ++ back) =
    (λ j. stretch_gap over (low_bits (all j) (same j) ++ back)) in
    omega arith
many_bits_before_stretch over (suc n) m v back some none =
    let all : m - 0 ≡ m = omega arith in
    let same : v / 2 ^ 0 ≡ v = omega arith in
    let first : begins_stretch over (low_bits m v ++ back) ≡ false =
    sym (λ j. begins_stretch over (low_bits (all j) (same j) ++ back)) ∙ none 0 (omega arith) in
    let one = one_bit_before_stretch over m v back (omega arith) first in
    let others = many_bits_before_stretch over n (m - 1) (v / 2) back (omega arith)
    (λ i l.
    let less : m - 1 - i ≡ m - suc i = omega arith in
    let shift : v / 2 / 2 ^ i ≡ v / 2 ^ suc i = shr-shr v 1 i ∙ ap (λ k. v / 2 ^ k) (omega arith) in
    (λ j. begins_stretch over (low_bits (less j) (shift j) ++ back)) ∙ none (suc i) (omega arith)) in
    let less : m - 1 - n ≡ m - suc n = omega arith in
    let shift : v / 2 / 2 ^ n ≡ v / 2 ^ suc n = shr-shr v 1 n ∙ ap (λ k. v / 2 ^ k) (omega arith) in
    let end : stretch_gap over (low_bits (m - 1 - n) (v / 2 / 2 ^ n) ++ back)
    ≡ stretch_gap over (low_bits (m - suc n) (v / 2 ^ suc n) ++ back) =
    (λ j. stretch_gap over (low_bits (less j) (shift j) ++ back)) in
    omega arith
