-- Data phases as lists of bits, one place of which may be changed.
use Rattle.std.proofs.Common.{◌≡◌, ℕ, zero, suc, ◌/◌, ◌%◌, ◌^◌, ◌<◌, true, not, refl, ◌∙◌, ap, arith}
use Rattle.std.specs.Prelude.{◌==◌, ◌↔◌, Some, replicate}
use Rattle.std.specs.Int.RustNames.{bit_xor}
use Rattle.std.specs.Int.Bits.{xor_zero_r}
use Rattle.std.proofs.lemmas.Nat.{xor_mod, xor_shr}
use Rattle.std.proofs.Math.Nat.{pow-suc}
use Rattle.swd_bits.specs.Bits.{low_bits}
use Rattle.swd_bits.specs.Wire.{phase}
use Rattle.swd_bits.specs.Phases.{data_phase_word}
use Rattle.swd_port.specs.Choices.{port_flipped, port_undriven}
use Rattle.swd_port.specs.Phases.{port_flip_at}
use Rattle.swd_bits.proofs.PhaseLemmas.{data_phase_number_bits, data_phase_number_unique, no_data_phase_no_word}
use Rattle.swd_bits.proofs.PhaseLemmas.{flipped_data_phase_no_word, data_phase_gives_word, data_phase_word_by_bits}
use Rattle.swd_bits.proofs.PhaseLemmas.{data_phase_of_found_word, ones_data_phase_no_word}

first_flips : (r : ℕ) → r < 2 → (bit_xor r 1 == 1) ≡ not (r == 1)
first_flips zero h = refl
first_flips (suc zero) h = refl
first_flips (suc (suc r)) h = absurd (omega arith)

-- a changed bit of a number is a changed place of its bits
pub port_bits_flip : (n p v : ℕ) → low_bits n (bit_xor v (2 ^ p)) ≡ port_flip_at p (low_bits n v)
unfolding low_bits
port_bits_flip zero zero v = refl
port_bits_flip zero (suc p) v = refl
port_bits_flip (suc n) zero v =
    let a : bit_xor v 1 % 2 ≡ bit_xor (v % 2) 1 = xor_mod v 1 1 in
    let b : bit_xor v 1 / 2 ≡ v / 2 = xor_shr v 1 1 ∙ xor_zero_r (v / 2) in
    rw (a, b, first_flips (v % 2) (omega arith)) refl
port_bits_flip (suc n) (suc p) v =
    let z : 2 ^ suc p % 2 ≡ 0 = omega (arith, pow-suc 2 p) in
    let h : 2 ^ suc p / 2 ≡ 2 ^ p = omega (arith, pow-suc 2 p) in
    let a : bit_xor v (2 ^ suc p) % 2 ≡ v % 2 = xor_mod v (2 ^ suc p) 1 ∙ ap (bit_xor (v % 2)) z ∙ xor_zero_r (v % 2) in
    let b : bit_xor v (2 ^ suc p) / 2 ≡ bit_xor (v / 2) (2 ^ p) = xor_shr v (2 ^ suc p) 1 ∙ ap (bit_xor (v / 2)) h in
    rw (a, b, port_bits_flip n p (v / 2)) refl

-- the bits of a number with at most one place changed
pub port_bits_flipped : (n p v : ℕ) → low_bits n (port_flipped (Some p) v) ≡ port_flip_at p (low_bits n v)
port_bits_flipped n p v = port_bits_flip n p v

-- a phase that is read, and the word that it is
pub port_phase_word_is : (v w : ℕ) → v < 2 ^ 33 → w < 2 ^ 32 → (data_phase_word v ≡ Some w) ↔ (low_bits 33 v ≡ phase w)
port_phase_word_is v w h k = (
  λ e. ap (low_bits 33) (data_phase_of_found_word v w h e) ∙ data_phase_number_bits w k,
  λ e. data_phase_word_by_bits v w h k e,
)

-- the ones of an undriven line
pub port_bits_undriven : low_bits 33 port_undriven ≡ replicate 33 true
unfolding low_bits
port_bits_undriven = refl

pub ruleset phase_laws = (
  data_phase_number_bits,
  data_phase_number_unique,
  port_phase_word_is,
  no_data_phase_no_word,
  port_bits_flipped,
  data_phase_gives_word,
  flipped_data_phase_no_word,
  port_bits_undriven,
  ones_data_phase_no_word,
)
