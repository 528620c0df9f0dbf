-- What is found at the front of some bits.
use Rattle.std.specs.Prelude.{◌≡◌, ℕ, ◌+◌, ◌<◌, ◌≤◌, List, Bool, ◌++◌, length}
use Rattle.swd_bits.specs.Bits.{low_bits}
use Rattle.swd_bits.specs.BitLists.{tx_bits_of, IsWellFormedTxBits}
use Rattle.swd_bits.specs.Transactions.{SpellsTx}
use Rattle.swd_bits.specs.declared.tx.Tx.{Tx}
use Rattle.swd_bits.specs.declared.tx_bits.TxBits.{TxBits}
use Rattle.swd_trace.specs.Spelled.{IsTraceTxAcknowledged}
use Rattle.swd_trace.specs.declared.front.Front.{Front}
use Rattle.swd_trace.specs.declared.front.Front.TheVariants.{Whole as FoundWhole, Begun as FoundBegun}
use Rattle.swd_trace.specs.declared.front.Front.TheVariants.{Broken as FoundBroken}
use Rattle.swd_trace.specs.Stands.{Whole, Begun, Broken, stands}

-- what is at the front; a beginning of a transaction remains one while there are fewer than `next` bits
abbrev pub IsDecoderFront : Front → List Bool → Type 0
IsDecoderFront (FoundWhole tx len) bits = (stands bits ≡ Whole tx len) × (12 ≤ len)
IsDecoderFront (FoundBegun next) bits = (length bits < next) × (next ≤ 46)
    × ((more : List Bool) → length bits + length more < next → stands (bits ++ more) ≡ Begun)
IsDecoderFront FoundBroken bits = stands bits ≡ Broken

-- the first bits of a number are those of an acknowledged transaction
pub record IsTxAtDecoderFront (bits : ℕ) (spelled : TxBits) : Type 0 where
  pub whole : IsWellFormedTxBits spelled
  pub short : spelled.len ≤ 46
  pub some : 0 < spelled.len
  pub same : tx_bits_of spelled ≡ low_bits spelled.len bits
  pub tx : Tx
  pub spells : SpellsTx tx (tx_bits_of spelled)
  pub acknowledged : IsTraceTxAcknowledged tx.result
