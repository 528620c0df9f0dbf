-- The rest of a write's data phase: the number of ones in what the target took is odd.
use Rattle.std.proofs.Common.{◌≡◌, ℕ, zero, suc, ◌+◌, ◌-◌, ◌*◌, ◌/◌, ◌%◌, ◌^◌, ◌<◌, ◌≤◌, Bool, true, false, List, []}
use Rattle.std.proofs.Common.{◌∷◌, ◌++◌, refl, sym, ◌∙◌, ap, arith, lit<, not}
use Rattle.std.proofs.Math.Nat.{pow-suc, mod-eq_of_lt, mod-lt, pow-le-pow_right}
use Rattle.std.proofs.lemmas.List.{append-nil}
use Rattle.std.specs.Prelude.{◌==◌, replicate, if◌then◌else◌}
use Rattle.std.specs.Int.RustNames.{count_ones}
use lib.Count.{ones_step}
use lib.Bits.{bit_or}
use Rattle.std.proofs.lemmas.Nat.{or_shifted, pow_pos}
use Rattle.std.proofs.Math.Pow.{shl_lt}
use Rattle.swd_bits.specs.Bits.{low_bits, bit, odd}
use Rattle.swd_bits.proofs.BitsLemmas.{low_bits-cat, low_bits-split, low_bits_join_lt}

-- how many bits are ones
abbrev ones_in : List Bool → ℕ
ones_in [] = 0
ones_in (b ∷ bits) = bit b + ones_in bits

ones_in_both : (xs ys : List Bool) → ones_in (xs ++ ys) ≡ ones_in xs + ones_in ys
ones_in_both [] ys = omega arith
ones_in_both (x ∷ xs) ys = omega (arith, ones_in_both xs ys)

-- the bits of 0 are false
pub cut_zeros : (n : ℕ) → low_bits n 0 ≡ replicate n false
unfolding low_bits
cut_zeros zero = refl
cut_zeros (suc n) = ap (λ bits. false ∷ bits) (cut_zeros n)

-- the first m bits of 2 ^ m - 1 are true
pub cut_ones : (n m : ℕ) → n ≤ m → low_bits n (2 ^ m - 1) ≡ replicate n true
unfolding low_bits
cut_ones zero m h = refl
cut_ones (suc n) zero h = absurd (omega arith)
cut_ones (suc n) (suc m) h =
    let e : (2 ^ suc m - 1) % 2 ≡ 1 = omega (arith, pow-suc 2 m, pow_pos m) in
    let f : (2 ^ suc m - 1) / 2 ≡ 2 ^ m - 1 = omega (arith, pow-suc 2 m, pow_pos m) in
    rw (e, f, cut_ones n m (omega arith)) refl

ones_in_level : (n : ℕ) (level : Bool) → ones_in (replicate n level) ≡ (if level then n else 0)
ones_in_level zero true = refl
ones_in_level zero false = refl
ones_in_level (suc n) true = omega (arith, ones_in_level n true)
ones_in_level (suc n) false = omega (arith, ones_in_level n false)

digit : (r : ℕ) → r < 2 → bit (r == 1) ≡ r
digit zero h = refl
digit (suc zero) h = refl
digit (suc (suc n)) h = absurd (omega arith)

ones_in_low : (n v : ℕ) → v < 2 ^ n → ones_in (low_bits n v) ≡ count_ones v
unfolding low_bits count_ones
ones_in_low zero v h = let z : v ≡ 0 = omega arith in rw z refl
ones_in_low (suc n) v h =
    let small : v / 2 < 2 ^ n = omega (arith, pow-suc 2 n) in
    omega (arith, digit (v % 2) (omega arith), ones_step v, ones_in_low n (v / 2) small)

-- the first bits of a number are those of a smaller one
ones_in_first : (n v : ℕ) → ones_in (low_bits n v) ≡ count_ones (v % 2 ^ n)
unfolding low_bits
ones_in_first n v =
    let e : n + 0 ≡ n = omega arith in
    ap ones_in (ap (λ m. low_bits m v) (sym e) ∙ low_bits-split n 0 v ∙ append-nil (low_bits n (v % 2 ^ n)))
    ∙ ones_in_low n (v % 2 ^ n) (mod-lt v (pow_pos n))

ones_in_one : (d : ℕ) → d < 2 → ones_in (low_bits 1 d) ≡ d
unfolding low_bits
ones_in_one zero h = refl
ones_in_one (suc zero) h = refl
ones_in_one (suc (suc n)) h = absurd (omega arith)

bit_not : (b : Bool) → bit (not b) + bit b ≡ 1
bit_not true = refl
bit_not false = refl

bit_odd : (bits : List Bool) → bit (odd bits) ≡ ones_in bits % 2
bit_odd [] = refl
bit_odd (true ∷ bits) = omega (arith, bit_not (odd bits), bit_odd bits)
bit_odd (false ∷ bits) = omega (arith, bit_odd bits)

is_one : (b : Bool) → bit b ≡ 1 → b ≡ true
is_one true h = refl
is_one false h = absurd (omega arith)

-- bits that are joined are a sum
join_sum : (m n a b : ℕ) → a < 2 ^ n → b < 2 ^ m → m + n ≤ 63 → bit_or (a * 2 ^ m % 2 ^ 64) b ≡ a * 2 ^ m + b
join_sum m n a b small h room =
    let moved : a * 2 ^ m < 2 ^ (n + m) = shl_lt n m small in
    let few : n + m ≤ 63 = omega arith in
    let most : 2 ^ (n + m) ≤ 2 ^ 63 = pow-le-pow_right {n = 2} (lit< tt) few in
    let whole : a * 2 ^ m % 2 ^ 64 ≡ a * 2 ^ m = mod-eq_of_lt (omega (arith, most, moved)) in
    rw whole (or_shifted a m b h)

-- the first bits of the rest: some of the level, the one that decides, and more of the level
rest_first : (place k j d low high : ℕ) (level : Bool) → place + k ≤ 32 → j ≤ k → d < 2 → low < 2 ^ place → high < 2 ^ k
    → low_bits place low ≡ replicate place level → low_bits j high ≡ replicate j level
    → low_bits (place + (1 + j)) (bit_or (bit_or (high * 2 ^ 1 % 2 ^ 64) d * 2 ^ place % 2 ^ 64) low)
    ≡ replicate place level ++ (low_bits 1 d ++ replicate j level)
rest_first place k j d low high level room few bit_d small_low small_high lows highs =
    let above_lt : bit_or (high * 2 ^ 1 % 2 ^ 64) d < 2 ^ (1 + k) =
    low_bits_join_lt 1 k high d small_high bit_d (omega arith) in
    rw (
      join_sum place (1 + k) (bit_or (high * 2 ^ 1 % 2 ^ 64) d) low above_lt small_low (omega arith),
      low_bits-cat place (1 + j) (bit_or (high * 2 ^ 1 % 2 ^ 64) d) low small_low,
      lows,
      join_sum 1 k high d small_high bit_d (omega arith),
      low_bits-cat 1 j high d bit_d,
      highs,
    ) refl

ones_in_five : (a b c d e : List Bool)
    → ones_in (a ++ b ++ (c ++ (d ++ e))) ≡ ones_in a + ones_in b + ones_in c + ones_in d + ones_in e
ones_in_five a b c d e =
    omega (
      arith,
      ones_in_both (a ++ b) (c ++ (d ++ e)),
      ones_in_both a b,
      ones_in_both c (d ++ e),
      ones_in_both d e,
    )

ones_of_cut : (first : List Bool) (again place j d : ℕ) (level : Bool) → d < 2
    → ones_in (first ++ replicate again level ++ (replicate place level ++ (low_bits 1 d ++ replicate j level)))
    ≡ ones_in first + (if level then again else 0) + (if level then place else 0) + d + (if level then j else 0)
ones_of_cut first again place j d level small =
    rw (
      ones_in_five first (replicate again level) (replicate place level) (low_bits 1 d) (replicate j level),
      ones_in_level again level,
      ones_in_level place level,
      ones_in_one d small,
      ones_in_level j level,
    ) refl

sum_is_odd : (ones again place j d : ℕ) (level : Bool)
    → d ≡ (ones + (if level then place + (again + j) else 0) + 1) % 2
    → (ones + (if level then again else 0) + (if level then place else 0) + d + (if level then j else 0)) % 2 ≡ 1
sum_is_odd ones again place j d true decides = omega arith
sum_is_odd ones again place j d false decides = omega arith

-- whatever of the clocks that failed was made: the number of ones is odd
pub cut_phase_is_odd : (bits made again place j d low high : ℕ) (level : Bool) → place + (again + j) ≤ 32
    → d ≡ (count_ones (bits % 2 ^ made) + (if level then place + (again + j) else 0) + 1) % 2 → low < 2 ^ place
    → high < 2 ^ (again + j) → low_bits place low ≡ replicate place level → low_bits j high ≡ replicate j level
    → odd (low_bits made bits ++ replicate again level
    ++ low_bits (place + (1 + j)) (bit_or (bit_or (high * 2 ^ 1 % 2 ^ 64) d * 2 ^ place % 2 ^ 64) low)) ≡ true
cut_phase_is_odd bits made again place j d low high level room decides small_low small_high lows highs =
    let bit_d : d < 2 = omega arith in
    rw (rest_first place (again + j) j d low high level room (omega arith) bit_d small_low small_high lows highs)
    (is_one _ (bit_odd _ ∙ ap (λ n. n % 2) (ones_of_cut (low_bits made bits) again place j d level bit_d)
    ∙ ap (λ n. (n + (if level then again else 0) + (if level then place else 0) + d + (if level then j else 0)) % 2)
    (ones_in_first made bits)
    ∙ sum_is_odd (count_ones (bits % 2 ^ made)) again place j d level decides))
