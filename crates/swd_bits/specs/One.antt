-- The results of reading the trace text of one transaction.
use Rattle.std.specs.Prelude.{◌≡◌, ℕ, ◌+◌, ◌-◌, ◌^◌, ◌<◌, ◌≤◌, min, Bool, true, false, List, [], ◌∷◌, ◌++◌, length}
use Rattle.std.specs.Prelude.{take, Option, None, Result, Ok, Err, IsSome, IsSomeAnd, IfSome}
use Rattle.std.specs.Option.{option_map}
use Rattle.std.specs.Io.KnownBytes.{Appends}
use Rattle.swd_bits.specs.BitLists.{tx_bits_of}
use Rattle.swd_bits.specs.TraceText.{scan_bits_from, scan_bits_of_text}
use Rattle.swd_bits.specs.Transactions.{SpellsTx}
use Rattle.swd_bits.specs.Listing.{tx_line}
use Rattle.swd_bits.specs.declared.tx_bits.TxBits.{TxBits}
use Rattle.swd_bits.specs.declared.tx.Tx.{Tx}
use Rattle.swd_bits.specs.declared.gathered.Gathered.{Gathered}
use Rattle.swd_bits.specs.declared.one.OneFault.{OneFault}
use Rattle.swd_bits.specs.declared.one.OneFault.TheVariants.{BadChar, NotOne, Read, Write}

-- the input has exactly the bits of this transaction
abbrev pub IsTextOfOneTx : Tx → List ℕ → Type 0
IsTextOfOneTx tx text = IsSomeAnd (scan_bits_of_text text) (SpellsTx tx)

-- the input is a trace text, and its bits aren't those of one transaction
abbrev pub IsTextOfNoTx : List ℕ → Type 0
IsTextOfNoTx text = IsSomeAnd (scan_bits_of_text text) (λ bits. (tx : Tx) → SpellsTx tx bits → ⊥)

-- the byte at this place is the first one that isn't allowed in a trace text
pub record IsFirstBadScanByte (text : List ℕ) (place : ℕ) : Type 0 where
  pub good : IsSome (scan_bits_of_text (take place text))
  pub bad : scan_bits_of_text (take (place + 1) text) ≡ None

-- the reported place is that of the first bad byte, saturating at 2^64 - 1
abbrev pub ReportsBadScanByte : ℕ → List ℕ → Type 0
ReportsBadScanByte told text = (place : ℕ) × (told ≡ min place (2 ^ 64 - 1)) × IsFirstBadScanByte text place

-- the listing line with its line feed
abbrev pub one_tx_line : Tx → List ℕ
one_tx_line tx = tx_line tx ++ 10 ∷ []

-- What a result implies about the reader's input, if its bytes are known, and about what the writer holds before and
-- after.
abbrev pub AnswersOneTx : Result (Unit {0}) OneFault → Option (List ℕ) → Option (List ℕ) → Option (List ℕ) → Type 0
AnswersOneTx (Ok u) text old new = (tx : Tx) × IfSome text (IsTextOfOneTx tx) × Appends old new (one_tx_line tx)
AnswersOneTx (Err (BadChar told)) text old new = IfSome text (ReportsBadScanByte told) × Appends old new []
AnswersOneTx (Err NotOne) text old new = IfSome text IsTextOfNoTx × Appends old new []
AnswersOneTx (Err Read) text old new = Appends old new []
AnswersOneTx (Err Write) text old new = (tx : Tx) × (k : ℕ) × (k < length (one_tx_line tx))
    × IfSome text (IsTextOfOneTx tx) × Appends old new (take k (one_tx_line tx))

-- The input so far has these bits, and ends inside a comment or outside, whatever follows.
unfoldable pub Reads : List ℕ → List Bool → Bool → Type 0
Reads seen bits comment = (more : List ℕ)
    → scan_bits_from false (seen ++ more) ≡ option_map (λ rest. bits ++ rest) (scan_bits_from comment more)

-- the bits are held as they are, or they are more than any transaction has
abbrev pub HoldsGatheredBits : Bool → TxBits → List Bool → Type 0
HoldsGatheredBits true held bits = (46 ≤ held.len) × (46 < length bits)
HoldsGatheredBits false held bits = (held.len ≤ 46) × (tx_bits_of held ≡ bits)

-- what is kept of the input so far
pub record GathersTxBits (seen : List ℕ) (g : Gathered) : Type 0 where
  pub bits : List Bool
  pub reads : Reads seen bits g.scan
  pub kept : HoldsGatheredBits g.long g.held bits

-- these bytes were taken, and this is kept of them
pub record GatheredTxHasRead (u : Unit {0}) (g : Gathered × Unit {0}) (seen : List ℕ) : Type 0 where
  pub gathers : GathersTxBits seen g.0
  pub place : g.0.place ≡ min (length seen) (2 ^ 64 - 1)

-- the reported place is that of the first bad byte, whatever follows the input
abbrev pub ReportsBadScanLater : Unit {0} → Gathered × Unit {0} → ℕ → List ℕ → Type 0
ReportsBadScanLater u g told text = (more : List ℕ) → ReportsBadScanByte told (text ++ more)

-- the result of reading to the end, if the bytes are known
abbrev pub GathersAllTxBits : Result Gathered OneFault → Option (List ℕ) → Type 0
GathersAllTxBits (Ok g) text = IfSome text (λ bytes. GathersTxBits bytes g)
GathersAllTxBits (Err (BadChar told)) text = IfSome text (ReportsBadScanByte told)
GathersAllTxBits (Err NotOne) text = ⊥
GathersAllTxBits (Err Read) text = Unit {0}
GathersAllTxBits (Err Write) text = ⊥
