use Rattle.std.proofs.Common.{◌≡◌, [], ◌∷◌, sym, ap, ◌∙◌}
use Rattle.swd_bits.specs.Bits.{bits_number}
use Rattle.swd_bits.specs.Wire.{bits_of_request}
use Rattle.swd_bits.proofs.BitsLemmas.{number-low_bits}
use Rattle.swd_sequences.specs.declared.sequence.Sequence.TheVariants.{Drive, Release, Sample}
use Rattle.swd_remote.proofs.probe_transport.asked.Goals as goal

pub returns : goal.returns
returns c =
    let bits : c.from.result ≡ bits_number (bits_of_request c.args.request) =
    c.from.ensures ∙ sym (number-low_bits 8 c.bits.result c.bits.type_inv) ∙ ap bits_number c.bits.ensures in
    ap (λ n. Drive n 8 ∷ Release 1 ∷ Sample 3 ∷ []) bits
