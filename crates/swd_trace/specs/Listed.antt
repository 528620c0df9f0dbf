-- The items that a listing lists, and the error of one that lists no items. The format is this project's
-- choice.
use Rattle.std.specs.Prelude.{◌≡◌, ◌≢◌, ℕ, ◌-◌, ◌^◌, ◌<◌, ◌≤◌, ◌==◌, List, [], ◌∷◌, length, take, if◌then◌else◌}
use Rattle.swd_bits.specs.BitLists.{IsWellFormedTxBits}
use Rattle.swd_bits.specs.Transactions.{IsTx}
use Rattle.swd_bits.specs.declared.tx_bits.TxBits.{TxBits}
use Rattle.swd_trace.specs.declared.item.Item.{Item}
use Rattle.swd_trace.specs.declared.item.Item.TheVariants.{Reset, Switch, Idle, Tx, Junk, Cut}
use Rattle.swd_trace.specs.declared.listing.fault.ListFault.{ListFault}
use Rattle.swd_trace.specs.declared.listing.fault.ListFault.TheVariants.{BadLine, NotNormal, Memory, Read}
use Rattle.swd_trace.specs.Reading.{reading_of}
use Rattle.swd_trace.specs.Texts.{item_line, bits_of_items}

-- 1 to 49 bits, with no bit set after them
pub record IsCutItemBits (bits : TxBits) : Type 0 where
  pub some : 1 ≤ bits.len
  pub short : bits.len ≤ 49
  pub spelled : IsWellFormedTxBits bits

-- the items that have a line: counts and words are in range, and the number of three bits that are no ACK is
-- one of five
abbrev pub IsLegalItem : Item → Type 0
IsLegalItem (Reset count) = count < 2 ^ 64
IsLegalItem Switch = Unit {0}
IsLegalItem (Idle count) = count < 2 ^ 64
IsLegalItem (Tx tx) = IsTx tx
IsLegalItem (Junk bit) = Unit {0}
IsLegalItem (Cut bits) = IsCutItemBits bits

-- the items whose bits can be written: the number of three bits that are no ACK is one of five, and a cut end
-- has fewer than fifty bits, with no bit set after them
abbrev pub IsEncodableItem : Item → Type 0
IsEncodableItem (Reset count) = Unit {0}
IsEncodableItem Switch = Unit {0}
IsEncodableItem (Idle count) = Unit {0}
IsEncodableItem (Tx tx) = IsTx tx
IsEncodableItem (Junk bit) = Unit {0}
IsEncodableItem (Cut bits) = (bits.len ≤ 49) × IsWellFormedTxBits bits

-- each item has a line
abbrev pub AreLegalItems : List Item → Type 0
AreLegalItems [] = Unit {0}
AreLegalItems (item ∷ items) = IsLegalItem item × AreLegalItems items

-- the line, without its line feed, is the item's
pub record IsItemLine (line : List ℕ) (item : Item) : Type 0 where
  pub text : line ≡ item_line item
  pub legal : IsLegalItem item

-- some lines with this byte before the first of them
abbrev pub before_listing_lines : ℕ → List (List ℕ) → List (List ℕ)
before_listing_lines byte [] = (byte ∷ []) ∷ []
before_listing_lines byte (line ∷ lines) = (byte ∷ line) ∷ lines

-- the lines of a text, without the line feeds (10) that end them; the last line may lack its line feed
abbrev pub listing_lines : List ℕ → List (List ℕ)
listing_lines [] = []
listing_lines (byte ∷ text) = if byte == 10 then []
    ∷ listing_lines text else before_listing_lines byte (listing_lines text)

-- each line is that of its item
abbrev pub AreItemLines : List (List ℕ) → List Item → Type 0
AreItemLines [] [] = Unit {0}
AreItemLines [] (item ∷ items) = ⊥
AreItemLines (line ∷ listing_lines) [] = ⊥
AreItemLines (line ∷ lines) (item ∷ items) = IsItemLine line item × AreItemLines lines items

-- the lines list these items, which have at most 2^64 - 1 bits
pub record ListsItems (lines : List (List ℕ)) (items : List Item) : Type 0 where
  pub each : AreItemLines lines items
  pub counted : length (bits_of_items items) < 2 ^ 64

-- the line with this number, from 1, is the first bad one: the lines before it list some items, and with it
-- they list none
pub record IsFirstBadListingLine (lines : List (List ℕ)) (number : ℕ) : Type 0 where
  pub before : List Item
  pub good : ListsItems (take (number - 1) lines) before
  pub bad : (items : List Item) → ListsItems (take number lines) items → ⊥

-- two lists differ first at the item with this number, from 1; a missing item counts as different
pub record ItemsDifferFirst (items others : List Item) (number : ℕ) : Type 0 where
  pub same : take (number - 1) items ≡ take (number - 1) others
  pub other : take number items ≢ take number others

-- the items are the reading of their own bits
abbrev pub IsNormalListing : List Item → Type 0
IsNormalListing items = reading_of (bits_of_items items) ≡ items

-- the error of a listing with these lines
abbrev pub RefusesListing : ListFault → List (List ℕ) → Type 0
RefusesListing (BadLine number) lines = IsFirstBadListingLine lines number
RefusesListing (NotNormal number) lines = (items : List Item) × ListsItems lines items
    × ItemsDifferFirst items (reading_of (bits_of_items items)) number
RefusesListing Memory lines = Unit {0}
RefusesListing Read lines = Unit {0}
