-- Laws of numbers that hold bits.
use Rattle.std.proofs.Common.{◌≡◌, ℕ, zero, suc, ◌+◌, ◌-◌, ◌*◌, ◌/◌, ◌%◌, ◌^◌, ◌<◌, ◌≤◌, Bool, true, false, List, []}
use Rattle.std.proofs.Common.{◌∷◌, ◌++◌, replicate, arith, refl, sym, ap, ◌∙◌, subst, bit_and, inl, inr}
use Rattle.std.specs.Prelude.{◌==◌}
use Rattle.std.proofs.Math.Pow.{shr_lt, pow-lt}
use Rattle.std.proofs.lemmas.Bool.{eqb-true}
use Rattle.std.proofs.lemmas.Nat.{one_shl, and_mask, leading_top, pow_pos, shr-shr}
use Rattle.std.proofs.Math.Nat.{pow-suc}
use lib.Count.{count_leading_zeros, count_trailing_zeros, leading_of_zero, under}
use Rattle.std.proofs.lemmas.List.{append-nil}
use Rattle.swd_bits.specs.Bits.{low_bits}
use Rattle.swd_bits.proofs.BitsLemmas.{low_bits-split, length-low_bits, low_bits_injective}
use Rattle.swd_trace.specs.Reading.{trace_all_ones}
use Rattle.swd_trace.proofs.ReadingLemmas.{trace_all_ones_is_run, trace_bit_cases}

-- the first of the bits
pub decoder_bits_next : (len v : ℕ) → 0 < len → low_bits len v ≡ (v % 2 == 1) ∷ low_bits (len - 1) (v / 2)
unfolding low_bits
decoder_bits_next zero v h = absurd (omega arith)
decoder_bits_next (suc len) v h = let e : suc len - 1 ≡ len = omega arith in rw e refl

-- the low 0 bits of a number are the empty list
pub decoder_bits_none : (len v : ℕ) → len ≡ 0 → low_bits len v ≡ []
unfolding low_bits
decoder_bits_none zero v h = refl
decoder_bits_none (suc len) v h = absurd (omega arith)

-- the low bits of what is left of a number
pub decoder_bits_mod : (m v : ℕ) → low_bits m (v % 2 ^ m) ≡ low_bits m v
decoder_bits_mod m v = sym (ap (λ k. low_bits k v) (omega arith) ∙ low_bits-split m 0 v
    ∙ ap (λ x. low_bits m (v % 2 ^ m) ++ x) (decoder_bits_none 0 (v / 2 ^ m) refl) ∙ append-nil
    (low_bits m (v % 2 ^ m)))

-- the first bits, and the others
pub decoder_bits_parted : (m len v : ℕ) → m ≤ len → low_bits len v ≡ low_bits m v ++ low_bits (len - m) (v / 2 ^ m)
decoder_bits_parted m len v h =
    let e : len ≡ m + (len - m) = omega arith in
    ap (λ k. low_bits k v) e ∙ low_bits-split m (len - m) v
    ∙ ap (λ x. x ++ low_bits (len - m) (v / 2 ^ m)) (decoder_bits_mod m v)

-- a shift within the bits
pub decoder_bits_shifted_lt : (m len v : ℕ) → m ≤ len → v < 2 ^ len → v / 2 ^ m < 2 ^ (len - m)
decoder_bits_shifted_lt m len v h k =
    let e : len - m + m ≡ len = omega arith in
    shr_lt (len - m) m (subst (λ n. v < 2 ^ n) (sym e) k)

-- a mask of the low bits
pub decoder_bits_masked : (n v : ℕ) → n < 64 → bit_and v (1 * 2 ^ n % 2 ^ 64 - 1) ≡ v % 2 ^ n
decoder_bits_masked n v h = rw (one_shl n 64 h) (and_mask v n)

-- a number of ones alone
pub decoder_bits_low_ones : (n : ℕ) → low_bits n (2 ^ n - 1) ≡ replicate n true
unfolding low_bits
decoder_bits_low_ones zero = refl
decoder_bits_low_ones (suc n) =
    let e : 2 ^ suc n ≡ 2 ^ n * 2 = pow-suc 2 n in
    let p : 0 < 2 ^ n = pow_pos n in
    let last : (2 ^ suc n - 1) % 2 ≡ 1 = omega arith in
    let half : (2 ^ suc n - 1) / 2 ≡ 2 ^ n - 1 = omega arith in
    ap (λ d. (d == 1) ∷ low_bits n ((2 ^ suc n - 1) / 2)) last ∙ ap (λ h. true ∷ low_bits n h) half
    ∙ ap (λ x. true ∷ x) (decoder_bits_low_ones n)

-- where the bits are not that number, there is a zero among them
pub decoder_bits_zero_among : (n v : ℕ) → v < 2 ^ n → n < 64 → (v ≡ 1 * 2 ^ n % 2 ^ 64 - 1 → ⊥)
    → trace_all_ones (low_bits n v) ≡ false
decoder_bits_zero_among n v h k d =
    elim (trace_bit_cases (trace_all_ones (low_bits n v))) [
      | inl e ↦
          let p : 0 < 2 ^ n = pow_pos n in
          let same : low_bits n v ≡ low_bits n (2 ^ n - 1) = trace_all_ones_is_run (low_bits n v) e
          ∙ ap (λ m. replicate m true) (length-low_bits n v) ∙ sym (decoder_bits_low_ones n) in
          let shl : 1 * 2 ^ n % 2 ^ 64 ≡ 2 ^ n = one_shl n 64 k in
          absurd (d (low_bits_injective n v (2 ^ n - 1) h (omega arith) same ∙ ap (λ x. x - 1) (sym shl)))
      | inr e ↦ e
    ]

-- the number 2 ^ n - 1, as the code computes it in 64 bits, is n ones
pub decoder_bits_ones_alone : (n v : ℕ) → n < 64 → v ≡ 1 * 2 ^ n % 2 ^ 64 - 1 → low_bits n v ≡ replicate n true
decoder_bits_ones_alone n v k e =
    ap (low_bits n) (e ∙ ap (λ x. x - 1) (one_shl n 64 k)) ∙ decoder_bits_low_ones n

pub decoder_bits_half_lt : (len v : ℕ) → v < 2 ^ len → 0 < len → v / 2 < 2 ^ (len - 1)
decoder_bits_half_lt len v h k = decoder_bits_shifted_lt 1 len v k h

-- the number 0 has zeros alone as its bits
pub decoder_bits_low_zeros : (n : ℕ) → low_bits n 0 ≡ replicate n false
unfolding low_bits
decoder_bits_low_zeros zero = refl
decoder_bits_low_zeros (suc n) = ap (λ x. false ∷ x) (decoder_bits_low_zeros n)

-- one bit
pub decoder_bits_one_bit : (v : ℕ) (more : List Bool) → (v % 2 == 1) ∷ more ≡ low_bits 1 v ++ more
unfolding low_bits
decoder_bits_one_bit v more = refl

-- ---- trailing zeros

-- the zeros at the front, and a one
pub record DecoderTrailingZeros (len v z : ℕ) : Type 0 where
  pub within : z < len
  pub one : v / 2 ^ z % 2 ≡ 1
  pub front : low_bits len v ≡ replicate z false ++ low_bits (len - z) (v / 2 ^ z)

trailing_step : (len v z d : ℕ) → d ≡ v % 2 → 0 < len → 0 < v → v < 2 ^ len
    → (v % 2 ≡ 0 → DecoderTrailingZeros (len - 1) (v / 2) z) → DecoderTrailingZeros len v (under d z)
trailing_step len v z zero e h p k next =
    let even : v % 2 ≡ 0 = sym e in
    let r = next even in
    let within : z < len - 1 = r.within in
    let shift : v / 2 / 2 ^ z ≡ v / 2 ^ suc z = shr-shr v 1 z ∙ ap (λ n. v / 2 ^ n) (omega arith) in
    let less : len - 1 - z ≡ len - suc z = omega arith in
    record {
      within = omega arith;
      one = ap (λ n. n % 2) (sym shift) ∙ r.one;
      front = decoder_bits_next len v h ∙ ap (λ n. (n == 1) ∷ low_bits (len - 1) (v / 2)) even
          ∙ ap (λ x. false ∷ x) (r.front ∙ ap (λ n. replicate z false ++ low_bits n (v / 2 / 2 ^ z)) less)
          ∙ ap (λ n. false ∷ (replicate z false ++ low_bits (len - suc z) n)) shift;
    }
trailing_step len v z (suc zero) e h p k next =
    let f : v / 2 ^ 0 ≡ v = omega arith in
    let g : len - 0 ≡ len = omega arith in
    record {
      within = h;
      one = ap (λ n. n % 2) f ∙ sym e;
      front = ap (low_bits len) (sym f)
          ∙ ap (λ n. low_bits n (v / 2 ^ 0)) (sym g);
    }
trailing_step len v z (suc (suc d)) e h p k next = absurd (omega arith)

-- the trailing zeros that are counted in a number other than 0 are the zeros at the front, and a one follows
pub decoder_zeros_counted : (k len v : ℕ) → len ≤ k → 0 < v → v < 2 ^ len
    → DecoderTrailingZeros len v (count_trailing_zeros k v)
unfolding count_trailing_zeros
decoder_zeros_counted k zero v h p q = absurd (omega arith)
decoder_zeros_counted zero (suc len) v h p q = absurd (omega arith)
decoder_zeros_counted (suc k) (suc len) v h p q =
    trailing_step (suc len) v (count_trailing_zeros k (v / 2)) (v % 2) refl (omega arith) p q
    (λ even.
    let less : suc len - 1 ≡ len = omega arith in
    let small : v / 2 < 2 ^ (suc len - 1) = decoder_bits_half_lt (suc len) v q (omega arith) in
    let r : DecoderTrailingZeros len (v / 2) (count_trailing_zeros k (v / 2)) =
    decoder_zeros_counted k len (v / 2) (omega arith) (omega arith) (subst (λ n. v / 2 < 2 ^ n) less small) in
    subst (λ n. DecoderTrailingZeros n (v / 2) (count_trailing_zeros k (v / 2))) (sym less) r)

-- as many zeros as are counted at the front
pub decoder_zeros_at_front : (k n v : ℕ) → n ≤ count_trailing_zeros k v → low_bits n v ≡ replicate n false
unfolding low_bits count_trailing_zeros
decoder_zeros_at_front k zero v h = refl
decoder_zeros_at_front zero (suc n) v h = absurd (omega arith)
decoder_zeros_at_front (suc k) (suc n) v h = step (v % 2) refl h (decoder_zeros_at_front k n (v / 2))
  where
    step : (d : ℕ) → d ≡ v % 2 → suc n ≤ under d (count_trailing_zeros k (v / 2))
        → (n ≤ count_trailing_zeros k (v / 2) → low_bits n (v / 2) ≡ replicate n false) →
        (v % 2 == 1) ∷ low_bits n (v / 2) ≡ false ∷ replicate n false
    step zero e h others = ap (λ x. (x == 1) ∷ low_bits n (v / 2)) (sym e) ∙ ap (λ x. false ∷ x) (others (omega arith))
    step (suc d) e h others = absurd (omega arith)

-- as many ones, where the other bits' zeros are counted
pub decoder_ones_at_front : (k n v : ℕ) → v < 2 ^ k → n ≤ count_trailing_zeros k (2 ^ k - 1 - v)
    → low_bits n v ≡ replicate n true
unfolding low_bits count_trailing_zeros
decoder_ones_at_front k zero v h c = refl
decoder_ones_at_front zero (suc n) v h c = absurd (omega arith)
decoder_ones_at_front (suc k) (suc n) v h c =
    let e : 2 ^ suc k ≡ 2 ^ k * 2 = pow-suc 2 k in
    let half : (2 ^ suc k - 1 - v) / 2 ≡ 2 ^ k - 1 - v / 2 = omega arith in
    step ((2 ^ suc k - 1 - v) % 2) (omega arith)
    (subst (λ m. suc n ≤ under ((2 ^ suc k - 1 - v) % 2) (count_trailing_zeros k m)) half c)
    (decoder_ones_at_front k n (v / 2) (omega arith))
  where
    step : (d : ℕ) → d + v % 2 ≡ 1 → suc n ≤ under d (count_trailing_zeros k (2 ^ k - 1 - v / 2)) →
        (n ≤ count_trailing_zeros k (2 ^ k - 1 - v / 2) → low_bits n (v / 2) ≡ replicate n true) →
        (v % 2 == 1) ∷ low_bits n (v / 2) ≡ true ∷ replicate n true
    step zero e h others = let one : v % 2 ≡ 1 = omega arith in ap (λ x. (x == 1) ∷ low_bits n (v / 2)) one
        ∙ ap (λ x. true ∷ x) (others (omega arith))
    step (suc d) e h others = absurd (omega arith)

-- no more than these are at the front
pub decoder_zeros_most : (k n v : ℕ) → n ≤ k → low_bits n v ≡ replicate n false → n ≤ count_trailing_zeros k v
unfolding low_bits count_trailing_zeros
decoder_zeros_most k zero v h e = omega arith
decoder_zeros_most zero (suc n) v h e = absurd (omega arith)
decoder_zeros_most (suc k) (suc n) v h e =
    let all : (v % 2 == 1) ∷ low_bits n (v / 2) ≡ false ∷ replicate n false = e in
    let here : (v % 2 == 1) ≡ false = cc in
    let others : low_bits n (v / 2) ≡ replicate n false = cc in
    step (v % 2) refl here (decoder_zeros_most k n (v / 2) (omega arith) others)
  where
    step : (d : ℕ) → d ≡ v % 2 → (v % 2 == 1) ≡ false → n ≤ count_trailing_zeros k (v / 2)
        → suc n ≤ under d (count_trailing_zeros k (v / 2))
    step zero e f g = omega arith
    step (suc d) e f g =
        let one : v % 2 ≡ 1 = omega arith in
        let odd : (1 == 1) ≡ false = ap (λ x. x == 1) (sym one) ∙ f in absurd cc

-- ones at the front are at most as many as the trailing zeros that are counted in the complement
pub decoder_ones_most : (k n v : ℕ) → v < 2 ^ k → n ≤ k → low_bits n v ≡ replicate n true
    → n ≤ count_trailing_zeros k (2 ^ k - 1 - v)
unfolding low_bits count_trailing_zeros
decoder_ones_most k zero v s h e = omega arith
decoder_ones_most zero (suc n) v s h e = absurd (omega arith)
decoder_ones_most (suc k) (suc n) v s h e =
    let double : 2 ^ suc k ≡ 2 ^ k * 2 = pow-suc 2 k in
    let half : (2 ^ suc k - 1 - v) / 2 ≡ 2 ^ k - 1 - v / 2 = omega arith in
    let all : (v % 2 == 1) ∷ low_bits n (v / 2) ≡ true ∷ replicate n true = e in
    let here : (v % 2 == 1) ≡ true = cc in
    let others : low_bits n (v / 2) ≡ replicate n true = cc in
    let one : v % 2 ≡ 1 = eqb-true (v % 2) 1 here in
    let more : n ≤ count_trailing_zeros k (2 ^ k - 1 - v / 2) =
    decoder_ones_most k n (v / 2) (omega arith) (omega arith) others in
    subst (λ m. suc n ≤ under ((2 ^ suc k - 1 - v) % 2) (count_trailing_zeros k m)) (sym half)
    (step ((2 ^ suc k - 1 - v) % 2) (omega arith) more)
  where
    step : (d : ℕ) → d ≡ 0 → n ≤ count_trailing_zeros k (2 ^ k - 1 - v / 2)
        → suc n ≤ under d (count_trailing_zeros k (2 ^ k - 1 - v / 2))
    step zero e g = omega arith
    step (suc d) e g = absurd (omega arith)

-- ---- the last zero among some bits

below : (i len : ℕ) → 2 ^ i < 2 ^ len → i < len
below i zero h = let some : 0 < 2 ^ i = pow_pos i in let none : 2 ^ i < 1 = h in absurd (omega arith)
below zero (suc len) h = omega arith
below (suc i) (suc len) h =
    let d : 2 ^ suc i ≡ 2 ^ i * 2 = pow-suc 2 i in
    let e : 2 ^ suc len ≡ 2 ^ len * 2 = pow-suc 2 len in
    let less : i < len = below i len (omega arith) in
    omega arith

-- 64 less the leading zeros of the complement is at most len, and unless it is 0, the last of that many bits or
-- a later bit is a zero
pub decoder_last_zero_bit : (len v : ℕ) → len < 64 → v < 2 ^ len
    → (64 - count_leading_zeros 64 (2 ^ len - 1 - v) ≤ len)
    × (0 < 64 - count_leading_zeros 64 (2 ^ len - 1 - v)
    → v + 2 ^ (64 - count_leading_zeros 64 (2 ^ len - 1 - v) - 1) < 2 ^ len)
decoder_last_zero_bit len v h k = by (2 ^ len - 1 - v) refl
  where
    by : (a : ℕ) → 2 ^ len - 1 - v ≡ a → (64 - count_leading_zeros 64 a ≤ len)
        × (0 < 64 - count_leading_zeros 64 a → v + 2 ^ (64 - count_leading_zeros 64 a - 1) < 2 ^ len)
    by zero e =
        let all : count_leading_zeros 64 zero ≡ 64 = leading_of_zero 64 in
        (omega arith, λ some. absurd (omega arith))
    by (suc a) e =
        let wide : 2 ^ len < 2 ^ 64 = pow-lt h in
        let top = leading_top 64 (suc a) (omega arith) (omega arith) in
        let sum : count_leading_zeros 64 (suc a) + suc top.0 ≡ 64 = top.1 in
        let low : 2 ^ top.0 ≤ suc a = top.2 in
        let less : top.0 < len = below top.0 len (omega arith) in
        let last : 64 - count_leading_zeros 64 (suc a) - 1 ≡ top.0 = omega arith in
        (omega arith, λ some. subst (λ n. v + 2 ^ n < 2 ^ len) (sym last) (omega arith))
