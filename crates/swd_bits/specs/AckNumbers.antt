-- Acknowledgements as numbers.
use Rattle.std.specs.Prelude.{ℕ}
use Rattle.swd_bits.specs.declared.ack.Ack.{Ack}
use Rattle.swd_bits.specs.declared.ack.Ack.TheVariants.{Ok, Wait, Fault}

-- its three bits as a number, the first in time least significant
abbrev pub ack_number : Ack → ℕ
ack_number Ok = 1
ack_number Wait = 2
ack_number Fault = 4
