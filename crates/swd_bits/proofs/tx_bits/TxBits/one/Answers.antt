use Rattle.std.proofs.Common.{◌≡◌, Bool, true, false, [], ◌∷◌, refl}
use mir.Val.{bool_byte}
use Rattle.swd_bits.specs.Bits.{low_bits}
use Rattle.swd_bits.proofs.tx_bits.TxBits.one.Goals as goal

bit_of : (b : Bool) → low_bits 1 (bool_byte b) ≡ b ∷ []
unfolding low_bits
bit_of true = refl
bit_of false = refl

pub returns-clause-bits : goal.returns-clause-bits
returns-clause-bits c = rw c.from.ensures (bit_of c.args.bit)
