use Rattle.std.proofs.Common.{◌<◌, ◌^◌, ap, sym, ◌∙◌, arith}
use Rattle.swd_bits.specs.Bits.{bits_number}
use Rattle.swd_bits.proofs.BitsLemmas.{number-low_bits}
use Rattle.swd_c.proofs.cue.bits_of.Goals as goal

pub returns : goal.returns
returns c =
    let byte : c.bits.result < 2 ^ 8 = omega arith in
    sym (number-low_bits 8 c.bits.result byte) ∙ ap bits_number c.bits.ensures
