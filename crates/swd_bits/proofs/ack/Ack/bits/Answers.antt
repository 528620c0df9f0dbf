use Rattle.std.proofs.Common.{refl}
use Rattle.swd_bits.specs.Bits.{low_bits}
use Rattle.swd_bits.proofs.ack.Ack.bits.Goals as goal

pub returns-in-Ok-clause-bits : goal.returns-in-Ok-clause-bits
unfolding low_bits
returns-in-Ok-clause-bits c = rw c.in-Ok.is refl

pub returns-in-Wait-clause-bits : goal.returns-in-Wait-clause-bits
unfolding low_bits
returns-in-Wait-clause-bits c = rw c.in-Wait.is refl

pub returns-in-Fault-clause-bits : goal.returns-in-Fault-clause-bits
unfolding low_bits
returns-in-Fault-clause-bits c = rw c.in-Fault.is refl
