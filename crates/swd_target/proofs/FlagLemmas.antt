-- A flag of a register's word, as the code reads it, is a bit of the word.
use Rattle.std.proofs.Common.{◌≡◌, ℕ, zero, suc, ◌*◌, ◌/◌, ◌%◌, ◌<◌, ◌^◌, ◌∙◌, ap, arith}
use Rattle.std.specs.Prelude.{◌==◌}
use Rattle.std.specs.Int.RustNames.{bit_and}
use Rattle.std.proofs.lemmas.Nat.{and_assoc, pow_pos}
use Rattle.std.proofs.lemmas.Nat.Bits.{and_pow}
use Rattle.swd_port.specs.Registers.{register_bit}

digit_flag : (d p : ℕ) → d < 2 → 0 < p → (d * p == p) ≡ (d == 1)
digit_flag zero p h k = grind arith
digit_flag (suc zero) p h k = grind arith
digit_flag (suc (suc d)) p h k = absurd (omega arith)

-- a flag that the mask keeps
pub target_flag_is_bit : (word k mask : ℕ) → bit_and mask (2 ^ k) ≡ 2 ^ k
    → (bit_and (bit_and word mask) (2 ^ k) == 2 ^ k) ≡ register_bit k word
target_flag_is_bit word k mask e =
    let kept : bit_and (bit_and word mask) (2 ^ k) ≡ (word / 2 ^ k % 2) * 2 ^ k = and_assoc (2 ^ k) word mask
    ∙ (ap (bit_and word) e ∙ and_pow word k) in
    ap (λ n. n == 2 ^ k) kept ∙ digit_flag (word / 2 ^ k % 2) (2 ^ k) (omega arith) (pow_pos k)
