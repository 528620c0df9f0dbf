-- Laws of lists of bits and the numbers that hold them.
use Rattle.std.proofs.Common.{◌≡◌, ℕ, zero, suc, ◌+◌, ◌*◌, ◌/◌, ◌%◌, ◌^◌, ◌<◌, ◌≤◌, Bool, true, false, not, List, []}
use Rattle.std.proofs.Common.{◌∷◌, ◌++◌, length, refl, sym, ◌∙◌, ap, arith, lit<}
use Rattle.std.proofs.Math.Nat.{pow-suc, mul_comm, mod-eq_of_lt, mod-lt, pow-le-pow_right}
use Rattle.std.specs.Prelude.{◌==◌}
use Rattle.std.specs.Int.RustNames.{count_ones}
use lib.Count.{ones_step}
use lib.Bits.{block_odd, block_half, bit_or}
use Rattle.std.proofs.lemmas.Nat.{or_shifted, shr_split, pow_pos, pow-add, mul-add-lt}
use Rattle.std.proofs.Math.Pow.{shl_lt}
use Rattle.swd_bits.specs.Bits.{low_bits, bits_number, bit, odd}

-- a digit as a bit, and back
digit : (r : ℕ) → r < 2 → bit (r == 1) ≡ r
digit zero h = refl
digit (suc zero) h = refl
digit (suc (suc n)) h = absurd (omega arith)

-- a number is twice its half, and its lowest bit
lowest : (v : ℕ) → bit (v % 2 == 1) + 2 * (v / 2) ≡ v
lowest v =
    let small : v % 2 < 2 = omega arith in
    rw (digit (v % 2) small) (omega arith)

-- the bits of a number give the number
pub number-low_bits : (n v : ℕ) → v < 2 ^ n → bits_number (low_bits n v) ≡ v
unfolding low_bits
number-low_bits zero v h = omega arith
number-low_bits (suc n) v h =
    let small : v / 2 < 2 ^ n = omega (arith, pow-suc 2 n) in
    rw (number-low_bits n (v / 2) small) (lowest v)

pub length-low_bits : (n v : ℕ) → length (low_bits n v) ≡ n
unfolding low_bits
length-low_bits zero v = refl
length-low_bits (suc n) v = ap suc (length-low_bits n (v / 2))

half_of : (b : Bool) (m : ℕ) → (bit b + 2 * m) / 2 ≡ m
half_of true m = omega arith
half_of false m = omega arith

lowest_of : (b : Bool) (m : ℕ) → ((bit b + 2 * m) % 2 == 1) ≡ b
lowest_of true m = let e : (1 + 2 * m) % 2 ≡ 1 = omega arith in rw e refl
lowest_of false m = let e : (0 + 2 * m) % 2 ≡ 0 = omega arith in rw e refl

-- the number of some bits gives the bits
pub low_bits-number : (bits : List Bool) → low_bits (length bits) (bits_number bits) ≡ bits
unfolding low_bits
low_bits-number [] = refl
low_bits-number (b ∷ bits) = rw (lowest_of b (bits_number bits), half_of b (bits_number bits), low_bits-number bits)
    refl

-- a list of n bits, as a number, is below 2 ^ n
pub bits_number_lt : (bits : List Bool) → bits_number bits < 2 ^ length bits
bits_number_lt [] = omega arith
bits_number_lt (true ∷ bits) = omega (arith, bits_number_lt bits, pow-suc 2 (length bits))
bits_number_lt (false ∷ bits) = omega (arith, bits_number_lt bits, pow-suc 2 (length bits))

flips : (r : ℕ) → r < 2 → (s : ℕ) → s < 2 → r + s ≡ 1 → not (r == 1) ≡ (s == 1)
flips zero h (suc zero) k e = refl
flips (suc zero) h zero k e = refl
flips zero h zero k e = absurd (omega arith)
flips (suc zero) h (suc s) k e = absurd (omega arith)
flips (suc (suc r)) h s k e = absurd (omega arith)
flips zero h (suc (suc s)) k e = absurd (omega arith)

odd_step : (r k : ℕ) → r < 2 → (bits : List Bool) → odd bits ≡ (k % 2 == 1) → odd ((r == 1) ∷ bits) ≡ ((r + k) % 2 == 1)
odd_step zero k h bits e = let z : zero + k ≡ k = omega arith in rw z e
odd_step (suc zero) k h bits e = ap not e ∙ flips (k % 2) (omega arith) ((1 + k) % 2) (omega arith) (omega arith)
odd_step (suc (suc n)) k h bits e = absurd (omega arith)

-- the parity of a number's bits
pub odd-low_bits : (n v : ℕ) → v < 2 ^ n → odd (low_bits n v) ≡ (count_ones v % 2 == 1)
unfolding low_bits count_ones
odd-low_bits zero v h = let z : v ≡ 0 = omega arith in rw z refl
odd-low_bits (suc n) v h =
    let small : v / 2 < 2 ^ n = omega (arith, pow-suc 2 n) in
    rw (ones_step v) (odd_step (v % 2) (count_ones (v / 2)) (omega arith) (low_bits n (v / 2))
    (odd-low_bits n (v / 2) small))

-- the bits of a number with a high part and a low part
pub low_bits-cat : (m n a b : ℕ) → b < 2 ^ m → low_bits (m + n) (a * 2 ^ m + b) ≡ low_bits m b ++ low_bits n a
unfolding low_bits
low_bits-cat zero n a b h =
    let z : b ≡ 0 = omega arith in
    let e : a * 1 + 0 ≡ a = omega arith in
    let f : zero + n ≡ n = omega arith in
    rw (z, e, f) refl
low_bits-cat (suc m) n a b h =
    let e : suc m + n ≡ suc (m + n) = omega arith in
    let small : b / 2 < 2 ^ m = omega (arith, pow-suc 2 m) in
    rw (e, block_odd a m b, block_half a m b, low_bits-cat m n a (b / 2) small) refl

-- two numbers with the same bits are equal
pub low_bits_injective : (n v w : ℕ) → v < 2 ^ n → w < 2 ^ n → low_bits n v ≡ low_bits n w → v ≡ w
low_bits_injective n v w h k e = sym (number-low_bits n v h) ∙ ap bits_number e ∙ number-low_bits n w k

-- a number that is moved up stays within 64 bits
no_loss : (m n a : ℕ) → a < 2 ^ n → m + n ≤ 63 → a * 2 ^ m % 2 ^ 64 ≡ a * 2 ^ m
no_loss m n a k room =
    let moved : a * 2 ^ m < 2 ^ (n + m) = shl_lt n m k in
    let room' : n + m ≤ 63 = omega arith in
    let most : 2 ^ (n + m) ≤ 2 ^ 63 = pow-le-pow_right (lit< tt) room' in
    mod-eq_of_lt (omega arith)

-- the bits of two numbers that are joined
pub low_bits-join : (m n a b : ℕ) → a < 2 ^ n → b < 2 ^ m → m + n ≤ 63
    → low_bits (m + n) (bit_or (a * 2 ^ m % 2 ^ 64) b) ≡ low_bits m b ++ low_bits n a
low_bits-join m n a b k h room = rw (no_loss m n a k room, or_shifted a m b h, low_bits-cat m n a b h) refl

-- m bits with n bits joined above them are a number below 2 ^ (m + n), for at most 63 bits in all
pub low_bits_join_lt : (m n a b : ℕ) → a < 2 ^ n → b < 2 ^ m → m + n ≤ 63 → bit_or (a * 2 ^ m % 2 ^ 64) b < 2 ^ (m + n)
low_bits_join_lt m n a b k h room =
    let e : m + n ≡ n + m = omega arith in
    rw (no_loss m n a k room, or_shifted a m b h, e, pow-add 2 n m, mul_comm (2 ^ n) (2 ^ m))
    (mul-add-lt a (2 ^ m) b (2 ^ n) k h)

-- the bits of a number that is taken apart
pub low_bits-split : (m n v : ℕ) → low_bits (m + n) v ≡ low_bits m (v % 2 ^ m) ++ low_bits n (v / 2 ^ m)
low_bits-split m n v =
    ap (low_bits (m + n)) (sym (shr_split v m)) ∙ low_bits-cat m n (v / 2 ^ m) (v % 2 ^ m) (mod-lt v (pow_pos m))
