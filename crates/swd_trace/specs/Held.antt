-- What a decoder holds, and what its calls do.
use Rattle.std.specs.Prelude.{◌≡◌, ℕ, zero, suc, ◌+◌, ◌-◌, ◌<◌, ◌≤◌, Bool, List, [], ◌∷◌, ◌++◌, length, replicate, min}
use Rattle.std.specs.Prelude.{map, Option, Some, None}
use Rattle.swd_bits.specs.Bits.{low_bits}
use Rattle.swd_bits.specs.BitLists.{tx_bits_of, IsWellFormedTxBits}
use Rattle.swd_bits.specs.Transactions.{SpellsTx}
use Rattle.swd_bits.specs.declared.tx.Tx.{Tx as Transaction}
use Rattle.swd_bits.specs.declared.tx_bits.TxBits.{TxBits}
use Rattle.swd_trace.specs.declared.item.Item.{Item}
use Rattle.swd_trace.specs.declared.item.Item.TheVariants.{Tx, Idle, Junk}
use Rattle.swd_trace.specs.declared.mode.Mode.{Mode}
use Rattle.swd_trace.specs.declared.mode.Mode.TheVariants.{Synced, AfterReset, AfterSwitch, Lost}
use Rattle.swd_trace.specs.declared.decoder.Decoder.{Decoder}
use Rattle.swd_trace.specs.declared.found_tx.FoundTx.{FoundTx}
use Rattle.swd_trace.specs.Reading.{switch_item, first_item, cut_first_item, reading, reading_of}

-- the bits that a decoder holds
abbrev pub decoder_held : Decoder → List Bool
decoder_held d = replicate d.run d.one ++ low_bits d.len d.bits

-- the reading of the held bits and of later ones
abbrev pub decoder_rest : Decoder → List Bool → List Item
decoder_rest d more = reading d.mode (replicate d.run d.one ++ (low_bits d.len d.bits ++ more))

-- it was fed these bits and returned these items: with any later bits, the items and the reading of what it
-- holds are the reading of the bits
abbrev pub DecoderHasRead : Decoder → List Bool → List Item → Type 0
DecoderHasRead d bits items = (more : List Bool) → items ++ decoder_rest d more ≡ reading_of (bits ++ more)

-- how many bits it was fed
abbrev pub decoder_fed : Decoder → ℕ
decoder_fed d = d.fed

-- how many bits it holds after the run of equal bits
abbrev pub decoder_held_len : Decoder → ℕ
decoder_held_len d = d.len

-- an upper bound on the number of items returned before the next bit is taken
abbrev pub decoder_places : Decoder → ℕ
decoder_places d = d.len + min d.run 50

-- the number of low bits that are taken: at least all that continue the held run; without a run, all, or as
-- many as make the held bits those of the longest transaction
pub record DecoderTakesMany (d : Decoder) (bits count taken : ℕ) : Type 0 where
  pub run : 0 < d.run → (n : ℕ) → n ≤ count → low_bits n bits ≡ replicate n d.one → n ≤ taken
  pub alone : d.run ≡ 0 → d.len < 46 → taken ≡ min count (46 - d.len)

-- no item is due
abbrev pub IsDecoderSettled : Decoder → Type 0
IsDecoderSettled d = d.len < d.next

-- all of the bits are cut off if they end here
abbrev pub IsCutTraceEnd : Mode → List Bool → Type 0
IsCutTraceEnd mode [] = ⊥
IsCutTraceEnd mode (b ∷ bits) = first_item mode b bits ≡ cut_first_item (b ∷ bits)

-- more bits may make these a transaction, fifty ones or a switch
abbrev pub IsTraceOpenAt : Mode → List Bool → Type 0
IsTraceOpenAt Synced bits = IsCutTraceEnd Synced bits
IsTraceOpenAt AfterReset bits = (back : List Bool) × (switch_item ≡ bits ++ back) × (length bits < 16)
IsTraceOpenAt AfterSwitch bits = ⊥
IsTraceOpenAt Lost bits = ⊥

pub record IsDecoderOpen (d : Decoder) : Type 0 where
  pub ran : 0 < d.run → d.len ≡ 0
  pub held : d.run ≡ 0 → 0 < d.len → IsTraceOpenAt d.mode (low_bits d.len d.bits)

-- an item is returned
pub record GivesItem (old new : Decoder) (item : Item) : Type 0 where
  pub law : (more : List Bool) → decoder_rest old more ≡ item ∷ decoder_rest new more
  pub fewer : decoder_places new < decoder_places old
  pub fed : decoder_fed new ≡ decoder_fed old

-- a transaction with these bits is returned
pub record GivesTxItem (old new : Decoder) (spelled : TxBits) : Type 0 where
  pub whole : IsWellFormedTxBits spelled
  pub short : spelled.len ≤ 46
  pub found : (tx : Transaction) × SpellsTx tx (tx_bits_of spelled)
  pub gives : (tx : Transaction) → SpellsTx tx (tx_bits_of spelled) → GivesItem old new (Tx tx)

-- junk bits are returned, each of them an item
pub record GivesJunkItems (old new : Decoder) (found : TxBits) : Type 0 where
  pub whole : IsWellFormedTxBits found
  pub short : found.len ≤ 50
  pub law : (more : List Bool) → decoder_rest old more ≡ map Junk (tx_bits_of found) ++ decoder_rest new more
  pub fewer : decoder_places new < decoder_places old
  pub fed : decoder_fed new ≡ decoder_fed old

-- no item is returned before the next bit
pub record DecoderWaits (old new : Decoder) : Type 0 where
  pub law : (more : List Bool) → decoder_rest old more ≡ decoder_rest new more
  pub open_end : IsDecoderOpen new
  pub settled : IsDecoderSettled new
  pub places : decoder_places new ≤ decoder_places old
  pub fed : decoder_fed new ≡ decoder_fed old

-- idle cycles as an item, if there are any
abbrev pub idle_items : ℕ → List Item
idle_items zero = []
idle_items (suc n) = Idle (suc n) ∷ []

-- a transaction is taken from new bits, after an item of idle cycles if there are any
pub record DecoderTakesTx (old new : Decoder) (bits count : ℕ) (found : FoundTx) : Type 0 where
  pub whole : IsWellFormedTxBits found.tx
  pub short : found.tx.len ≤ 46
  pub spells : (tx : Transaction) × SpellsTx tx (tx_bits_of found.tx)
  pub some : 0 < found.taken
  pub most : found.taken ≤ count
  pub gives : (tx : Transaction) → SpellsTx tx (tx_bits_of found.tx) → (more : List Bool)
      → decoder_rest old (low_bits found.taken bits ++ more) ≡ idle_items found.idle ++ (Tx tx ∷ decoder_rest new more)
  pub fed : decoder_fed new ≡ decoder_fed old + found.taken
  pub settled : IsDecoderSettled new

abbrev pub DecidesItem : Decoder → Decoder → Option Item → Type 0
DecidesItem old new (Some item) = GivesItem old new item
DecidesItem old new None = DecoderWaits old new

-- an item is returned where the bits end
pub record ClosesWithItem (old new : Decoder) (item : Item) : Type 0 where
  pub law : decoder_rest old [] ≡ item ∷ decoder_rest new []
  pub fewer : decoder_places new < decoder_places old
  pub fed : decoder_fed new ≡ decoder_fed old

-- an item is returned where the bits end, unless all items were returned
abbrev pub DecoderCloses : Decoder → Decoder → Option Item → Type 0
DecoderCloses old new (Some item) = ClosesWithItem old new item
DecoderCloses old new None = (decoder_rest old [] ≡ []) × (decoder_fed new ≡ decoder_fed old)
