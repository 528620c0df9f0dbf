use Rattle.std.proofs.Common.{◌≡◌, [], ◌∷◌, sym, ap, ◌∙◌}
use Rattle.swd_bits.specs.Bits.{bits_number}
use Rattle.swd_bits.specs.Wire.{bits_of_request}
use Rattle.swd_bits.proofs.BitsLemmas.{number-low_bits}
use Rattle.swd_dap.proofs.requests.ask_request.Goals as goal

pub returns : goal.returns
returns c =
    let bits : c.bits.result ≡ bits_number (bits_of_request c.args.request) =
    sym (number-low_bits 8 c.bits.result c.bits.type_inv) ∙ ap bits_number c.bits.ensures in
    ap (λ n. 29 ∷ 2 ∷ 8 ∷ n ∷ 132 ∷ []) bits
