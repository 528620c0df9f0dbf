-- Numbers with a count of bits, as lists of bits.
use Rattle.std.specs.Prelude.{◌^◌, ◌<◌, Bool, List}
use Rattle.swd_bits.specs.Bits.{low_bits}
use Rattle.swd_bits.specs.declared.tx_bits.TxBits.{TxBits}

-- the bits in time order
abbrev pub tx_bits_of : TxBits → List Bool
tx_bits_of b = low_bits b.len b.bits

-- no bit is set past the count
abbrev pub IsWellFormedTxBits : TxBits → Type 0
IsWellFormedTxBits b = b.bits < 2 ^ b.len
