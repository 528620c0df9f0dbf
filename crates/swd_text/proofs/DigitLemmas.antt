-- Laws of the characters of bits.
use Rattle.std.proofs.Common.{◌≡◌, ℕ, zero, suc, ◌+◌, ◌*◌, ◌/◌, ◌%◌, ◌<◌, ◌≤◌, Bool, true, false, not, cond, List, []}
use Rattle.std.proofs.Common.{◌∷◌}
use Rattle.std.proofs.Common.{◌++◌, length, take, get_or, map, refl, sym, ap, ◌∙◌, subst, append_assoc, arith, inl, inr}
use Rattle.std.specs.Prelude.{◌==◌}
use Rattle.std.specs.List.{prefix_len}
use Rattle.std.specs.Simd.Lanes.{mask_l}
use Rattle.std.proofs.lemmas.List.{append-nil}
use Rattle.std.proofs.lemmas.List.Sums.{prefix_len_stops}
use Rattle.std.proofs.lemmas.Simd.{trailing_mask_l, leading_from_mask_l}
use Rattle.std.proofs.lemmas.Bool.{cases_lt, cases_eq, ne_eqb}
use lib.Count.{count_trailing_zeros, trailing_le, trailing_of_zero}
use Rattle.swd_bits.specs.Bits.{low_bits}
use Rattle.swd_bits.specs.One.{Reads}
use Rattle.swd_bits.proofs.ScanLemmas.{scan_bits_one_more}
use Rattle.swd_trace.specs.Texts.{trace_digit}
use Rattle.swd_text.specs.Digits.{is_not_text_digit}

-- the lowest bit of a mask, and the others
lowest : (b : Bool) (m : ℕ) → ((cond b 1 0 + 2 * m) % 2 == 1) ≡ b
lowest true m = let e : (1 + 2 * m) % 2 ≡ 1 = omega arith in rw e refl
lowest false m = let e : (0 + 2 * m) % 2 ≡ 0 = omega arith in rw e refl

half : (b : Bool) (m : ℕ) → (cond b 1 0 + 2 * m) / 2 ≡ m
half true m = omega arith
half false m = omega arith

next_bit : (n : ℕ) (b : Bool) (m : ℕ) → low_bits (suc n) (cond b 1 0 + 2 * m) ≡ b ∷ low_bits n m
unfolding low_bits
next_bit n b m = rw (lowest b m, half b m) refl

-- a byte that is no other is a digit
digit_of : (byte : ℕ) → is_not_text_digit byte ≡ false → byte ≡ trace_digit (byte == 49)
digit_of byte e = elim (cases_eq byte 49) [
  | inl p ↦ rw p refl
  | inr q ↦ elim (cases_eq (byte / 2) 24) [
    | inl h ↦ (let zero_is : byte ≡ 48 = omega arith in rw zero_is refl)
    | inr n ↦ (let other : not (byte / 2 == 24) ≡ true = ap not (ne_eqb _ _ n) in absurd cc)
  ]
]

-- the digits at the front
pub text_digits_front : (bytes : List ℕ) (n : ℕ) → n ≤ prefix_len (λ x. not (is_not_text_digit x)) bytes
    → take n bytes ≡ map trace_digit (low_bits n (mask_l (map (λ byte. byte == 49) bytes)))
unfolding low_bits
text_digits_front bytes zero h = refl
text_digits_front [] (suc n) h = absurd (omega arith)
text_digits_front (byte ∷ bytes) (suc n) h =
    step (is_not_text_digit byte) refl h (text_digits_front bytes n)
  where
    step : (b : Bool) → is_not_text_digit byte ≡ b
        → suc n ≤ cond (not b) (1 + prefix_len (λ x. not (is_not_text_digit x)) bytes) 0
        → (n ≤ prefix_len (λ x. not (is_not_text_digit x)) bytes
        → take n bytes ≡ map trace_digit (low_bits n (mask_l (map (λ x. x == 49) bytes)))) →
        byte ∷ take n bytes ≡ map trace_digit
        (low_bits (suc n) (cond (byte == 49) 1 0 + 2 * mask_l (map (λ x. x == 49) bytes)))
    step true e h others = absurd (omega arith)
    step false e h others =
        let rest = others (omega arith) in
        ap (λ x. x ∷ take n bytes) (digit_of byte e) ∙ ap (λ x. trace_digit (byte == 49) ∷ x) rest
        ∙ ap (map trace_digit) (sym (next_bit n (byte == 49) (mask_l (map (λ x. x == 49) bytes))))

-- as many as the mask of the others has zeros at its end
pub text_digits_in_front : (bytes : List ℕ) → length bytes ≡ 64
    → count_trailing_zeros 64 (mask_l (map is_not_text_digit bytes)) ≤ prefix_len (λ x. not (is_not_text_digit x)) bytes
text_digits_in_front bytes h = elim (cases_lt 0 (mask_l (map is_not_text_digit bytes))) [
  | inl p ↦ omega (arith, trailing_mask_l is_not_text_digit 64 bytes (omega arith) p)
  | inr q ↦
      let none : mask_l (map is_not_text_digit bytes) ≡ 0 = omega arith in
      omega (
        arith,
        trailing_le 64 (mask_l (map is_not_text_digit bytes)),
        leading_from_mask_l is_not_text_digit bytes none,
      )
]

-- behind so many bytes comes another byte
pub text_digits_stop_at_other : (bytes : List ℕ) (k : ℕ) → length bytes ≡ 64
    → k ≡ count_trailing_zeros 64 (mask_l (map is_not_text_digit bytes))
    → k < 64 → is_not_text_digit (get_or bytes k 0) ≡ true
text_digits_stop_at_other bytes k h e less = elim (cases_lt 0 (mask_l (map is_not_text_digit bytes))) [
  | inl some ↦
      let same : k ≡ prefix_len (λ x. not (is_not_text_digit x)) bytes =
      e ∙ trailing_mask_l is_not_text_digit 64 bytes (omega arith) some in
      let stop : not (is_not_text_digit (get_or bytes k 0)) ≡ false =
      ap (λ n. not (is_not_text_digit (get_or bytes n 0))) same
      ∙ prefix_len_stops (λ x. not (is_not_text_digit x)) bytes 0 (omega arith) in
      not_false (is_not_text_digit (get_or bytes k 0)) stop
  | inr none ↦
      let zero_mask : mask_l (map is_not_text_digit bytes) ≡ 0 = omega arith in
      let all : count_trailing_zeros 64 (mask_l (map is_not_text_digit bytes)) ≡ 64 =
      ap (count_trailing_zeros 64) zero_mask ∙ trailing_of_zero 64 in
      absurd (omega arith)
]
  where
    not_false : (b : Bool) → not b ≡ false → b ≡ true
    not_false true e = refl
    not_false false e = absurd cc

-- a text that is read goes on with digits
pub text_digits_read : (more : List Bool) (seen : List ℕ) (bits : List Bool) → Reads seen bits false
    → Reads (seen ++ map trace_digit more) (bits ++ more) false
text_digits_read [] seen bits h = rw (append-nil seen, append-nil bits) h
text_digits_read (b ∷ more) seen bits h =
    rw (← append_assoc seen (trace_digit b ∷ []) (map trace_digit more), ← append_assoc bits (b ∷ []) more)
    (text_digits_read more (seen ++ trace_digit b ∷ []) (bits ++ b ∷ []) (one b h))
  where
    one : (b : Bool) → Reads seen bits false → Reads (seen ++ trace_digit b ∷ []) (bits ++ b ∷ []) false
    one true h = scan_bits_one_more seen bits false false true 49 refl refl h
    one false h = scan_bits_one_more seen bits false false false 48 refl refl h

-- so many of them
pub text_digits_taken : (seen text : List ℕ) (bits : List Bool) (before after : Bool) (n k v : ℕ) → before ≡ false
    → after ≡ before → k ≡ n →
    take n text ≡ map trace_digit (low_bits n v) → Reads seen bits before
    → Reads (seen ++ take k text) (bits ++ low_bits n v) after
text_digits_taken seen text bits before after n k v e f same digits h =
    subst (λ c. Reads (seen ++ take k text) (bits ++ low_bits n v) c) (sym (f ∙ e))
    (subst (λ t. Reads (seen ++ t) (bits ++ low_bits n v) false) (sym (ap (λ m. take m text) same ∙ digits))
    (text_digits_read (low_bits n v) seen bits (subst (λ c. Reads seen bits c) e h)))
