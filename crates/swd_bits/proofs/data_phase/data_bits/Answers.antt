use Rattle.std.proofs.Common.{◌≡◌, ℕ, ◌*◌, ◌%◌, ◌^◌, ◌<◌, refl, ap, arith, bit_or, ◌∙◌}
use Rattle.std.specs.Prelude.{count_ones}
use Rattle.std.proofs.lemmas.Nat.{or_shifted}
use Rattle.swd_bits.specs.Bits.{low_bits}
use Rattle.swd_bits.specs.Phases.{data_phase_number}
use Rattle.swd_bits.proofs.PhaseLemmas.{data_phase_number_bits}
use Rattle.swd_bits.proofs.data_phase.data_bits.Goals as goal

joined : (w p : ℕ) → w < 2 ^ 32 → p ≡ count_ones w % 2 → bit_or (p * 2 ^ 32 % 2 ^ 64) w ≡ data_phase_number w
joined w p h e =
    let whole : p * 2 ^ 32 % 2 ^ 64 ≡ p * 2 ^ 32 = omega arith in
    rw (whole, or_shifted p 32 w h, e) refl

pub returns-clause-number : goal.returns-clause-number
returns-clause-number c = rw c.from.ensures
    (joined c.args.word c.from-parity.result (omega arith) c.from-parity.ensures)

pub returns-clause-bits : goal.returns-clause-bits
returns-clause-bits c = ap (low_bits 33) (returns-clause-number c) ∙ data_phase_number_bits c.args.word
    c.ranges.word.fits
