-- A data phase as a number gives its word, and no other 33 bits give one: for `data_phase.rt` and the port model.
use Rattle.std.proofs.Common.{◌≡◌, ℕ, zero, suc, ◌+◌, ◌-◌, ◌*◌, ◌/◌, ◌%◌, ◌^◌, ◌<◌, Bool, true, false, [], ◌∷◌, refl}
use Rattle.std.proofs.Common.{sym, ◌∙◌, ap, arith}
use Rattle.std.specs.Prelude.{◌==◌, Some, None, if◌then◌else◌}
use Rattle.std.specs.Int.RustNames.{count_ones, bit_xor}
use Rattle.std.specs.Int.Bits.{xor_zero_r}
use lib.Count.{ones_step}
use Rattle.std.proofs.lemmas.Nat.{xor_mod, xor_shr, ones_cat, shr_split, mod_low, pow_pos}
use Rattle.std.proofs.lemmas.Bool.{eqb-true}
use Rattle.std.proofs.Math.Nat.{pow-suc}
use Rattle.swd_bits.specs.Bits.{low_bits}
use Rattle.swd_bits.specs.Wire.{phase}
use Rattle.swd_bits.specs.Phases.{data_phase_number, data_phase_word}
use Rattle.swd_bits.specs.Wire.{IsNoDataPhase}
use Rattle.swd_bits.proofs.BitsLemmas.{low_bits-cat, odd-low_bits, low_bits_injective}

xor_first : (r : ℕ) → r < 2 → bit_xor r 1 + r ≡ 1
xor_first zero h = refl
xor_first (suc zero) h = refl
xor_first (suc (suc r)) h = absurd (omega arith)

-- a changed bit changes the parity
pub bit_flip_changes_parity : (p v : ℕ) → count_ones (bit_xor v (2 ^ p)) % 2 ≡ (count_ones v + 1) % 2
unfolding count_ones
bit_flip_changes_parity zero v =
    let a : bit_xor v 1 % 2 ≡ bit_xor (v % 2) 1 = xor_mod v 1 1 in
    let b : count_ones (bit_xor v 1 / 2) ≡ count_ones (v / 2) = ap count_ones (xor_shr v 1 1 ∙ xor_zero_r (v / 2)) in
    let c : bit_xor (v % 2) 1 + v % 2 ≡ 1 = xor_first (v % 2) (omega arith) in
    omega (arith, ones_step (bit_xor v 1), ones_step v)
bit_flip_changes_parity (suc p) v =
    let z : 2 ^ suc p % 2 ≡ 0 = omega (arith, pow-suc 2 p) in
    let h : 2 ^ suc p / 2 ≡ 2 ^ p = omega (arith, pow-suc 2 p) in
    let a : bit_xor v (2 ^ suc p) % 2 ≡ v % 2 = xor_mod v (2 ^ suc p) 1 ∙ ap (bit_xor (v % 2)) z ∙ xor_zero_r (v % 2) in
    let b : count_ones (bit_xor v (2 ^ suc p) / 2) ≡ count_ones (bit_xor (v / 2) (2 ^ p)) = ap count_ones
    (xor_shr v (2 ^ suc p) 1 ∙ ap (bit_xor (v / 2)) h) in
    omega (arith, ones_step (bit_xor v (2 ^ suc p)), ones_step v, bit_flip_changes_parity p (v / 2))

ones_digit : (r : ℕ) → r < 2 → count_ones r ≡ r
unfolding count_ones
ones_digit zero h = refl
ones_digit (suc zero) h = refl
ones_digit (suc (suc r)) h = absurd (omega arith)

-- the ones of a number of 33 bits
ones_parts : (hi lo : ℕ) → hi < 2 → lo < 2 ^ 32 → count_ones (hi * 2 ^ 32 + lo) ≡ hi + count_ones lo
unfolding count_ones
ones_parts hi lo h k = ones_cat 32 hi lo k ∙ ap (λ n. n + count_ones lo) (ones_digit hi h)

pub data_phase_is_even : (w : ℕ) → w < 2 ^ 32 → count_ones (data_phase_number w) % 2 ≡ 0
data_phase_is_even w h = omega (arith, ones_parts (count_ones w % 2) w (omega arith) h)

-- a phase tells its word
pub data_phase_gives_word : (w : ℕ) → w < 2 ^ 32 → data_phase_word (data_phase_number w) ≡ Some w
data_phase_gives_word w h = rw (data_phase_is_even w h, mod_low (count_ones w % 2) 32 w h) refl

-- a phase with one bit changed tells none
pub flipped_data_phase_no_word : (w p : ℕ) → w < 2 ^ 32 → data_phase_word (bit_xor (data_phase_number w) (2 ^ p)) ≡ None
flipped_data_phase_no_word w p h =
    let e : count_ones (bit_xor (data_phase_number w) (2 ^ p)) % 2 ≡ 1 = omega
    (arith, bit_flip_changes_parity p (data_phase_number w), data_phase_is_even w h) in
    rw e refl

-- a run of ones
pub low_bits_count_all_ones : (k : ℕ) → count_ones (2 ^ k - 1) ≡ k
unfolding count_ones
low_bits_count_all_ones zero = refl
low_bits_count_all_ones (suc k) =
    let a : 2 ^ suc k ≡ 2 * 2 ^ k = omega (arith, pow-suc 2 k) in
    let b : (2 ^ suc k - 1) / 2 ≡ 2 ^ k - 1 = omega (arith, pow_pos k) in
    omega (arith, ones_step (2 ^ suc k - 1), ap count_ones b, low_bits_count_all_ones k, pow_pos k)

-- ones alone tell none
pub ones_data_phase_no_word : data_phase_word (2 ^ 33 - 1) ≡ None
ones_data_phase_no_word = let e : count_ones (2 ^ 33 - 1) % 2 ≡ 1 = ap (λ n. n % 2) (low_bits_count_all_ones 33) in
    rw e refl

last_bit : (p : ℕ) → p < 2 → low_bits 1 p ≡ (p == 1) ∷ []
unfolding low_bits
last_bit p h = let e : p % 2 ≡ p = omega arith in rw e refl

-- the bits of a phase
pub data_phase_number_bits : (w : ℕ) → w < 2 ^ 32 → low_bits 33 (data_phase_number w) ≡ phase w
unfolding phase
data_phase_number_bits w h = rw (
  low_bits-cat 32 1 (count_ones w % 2) w h,
  last_bit (count_ones w % 2) (omega arith),
  odd-low_bits
      32 w h,
) refl

told : (even : Bool) (v w : ℕ) → v < 2 ^ 33 → (count_ones v % 2 == 0) ≡ even
    → (if even then Some (v % 2 ^ 32) else None) ≡ Some w → v ≡ data_phase_number w
told true v w h e f =
    let zero_rest : count_ones v % 2 ≡ 0 = eqb-true (count_ones v % 2) 0 e in
    let g : v % 2 ^ 32 ≡ w = cc in
    let parts : v / 2 ^ 32 * 2 ^ 32 + v % 2 ^ 32 ≡ v = shr_split v 32 in
    let ones : count_ones v ≡ v / 2 ^ 32 + count_ones w = ap count_ones (sym parts)
    ∙ ones_parts (v / 2 ^ 32) (v % 2 ^ 32) (omega arith) (omega arith)
    ∙ ap (λ n. v / 2 ^ 32 + count_ones n) g in
    omega arith
told false v w h e f = absurd (cc)

-- a number that tells a word is its phase
pub data_phase_of_found_word : (v w : ℕ) → v < 2 ^ 33 → data_phase_word v ≡ Some w → v ≡ data_phase_number w
data_phase_of_found_word v w h e = told (count_ones v % 2 == 0) v w h refl e

-- 33 bits that are the phase of a word
pub data_phase_number_unique : (v w : ℕ) → v < 2 ^ 33 → w < 2 ^ 32 → low_bits 33 v ≡ phase w → v ≡ data_phase_number w
data_phase_number_unique v w h k e = low_bits_injective 33 v (data_phase_number w) h (omega arith)
    (e ∙ sym (data_phase_number_bits w k))

-- a phase by its bits
pub data_phase_word_by_bits : (v w : ℕ) → v < 2 ^ 33 → w < 2 ^ 32 → low_bits 33 v ≡ phase w → data_phase_word v ≡ Some w
data_phase_word_by_bits v w h k e = ap data_phase_word (data_phase_number_unique v w h k e) ∙ data_phase_gives_word w k

-- 33 bits that are no word's phase
none_found : (even : Bool) (v : ℕ) → v < 2 ^ 33 → IsNoDataPhase v → (count_ones v % 2 == 0) ≡ even
    → data_phase_word v ≡ None
none_found false v h none e = rw e refl
none_found true v h none e =
    let small : v % 2 ^ 32 < 2 ^ 32 = omega arith in
    absurd (none (v % 2 ^ 32) small
    (sym (ap (low_bits 33) (data_phase_of_found_word v (v % 2 ^ 32) h (rw e refl)) ∙ data_phase_number_bits (v % 2 ^ 32)
    small)))

-- 33 bits that aren't the data phase of any word give no word
pub no_data_phase_no_word : (v : ℕ) → v < 2 ^ 33 → IsNoDataPhase v → data_phase_word v ≡ None
no_data_phase_no_word v h none = none_found (count_ones v % 2 == 0) v h none refl
