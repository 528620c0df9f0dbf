-- Whether a list of items is the reading of its own bits.
use Rattle.std.specs.Prelude.{◌≡◌, ℕ, suc, ◌+◌, ◌<◌, ◌≤◌, Bool, List, [], ◌∷◌, ◌++◌, length, take, Option, Some, None}
use Rattle.swd_trace.specs.declared.item.Item.{Item}
use Rattle.swd_trace.specs.declared.decoder.Decoder.{Decoder}
use Rattle.swd_trace.specs.Held.{decoder_rest}
use Rattle.swd_trace.specs.Listed.{IsNormalListing, ItemsDifferFirst}
use Rattle.swd_trace.specs.Reading.{reading_of}
use Rattle.swd_trace.specs.Texts.{bits_of_items}

-- the reading of a list's bits is its first `same` items, and then what a decoder reads of the bits ahead of
-- it
pub record ListingAgrees (items : List Item) (same : ℕ) (d : Decoder) (ahead : List Bool) : Type 0 where
  pub within : same ≤ length items
  pub law : take same items ++ decoder_rest d ahead ≡ reading_of (bits_of_items items)

-- after its first `same` items the list has this one
abbrev pub HasNextItem : List Item → ℕ → Item → Type 0
HasNextItem items same item = (same < length items) × (take (same + 1) items ≡ take same items ++ item ∷ [])

-- a list and the reading of its bits differ first at this item, counted from 0
pub record ListingDiffers (items : List Item) (at : ℕ) : Type 0 where
  pub within : at ≤ length items
  pub first : ItemsDifferFirst items (reading_of (bits_of_items items)) (suc at)

abbrev pub IsListingDifference : List Item → Option ℕ → Type 0
IsListingDifference items None = IsNormalListing items
IsListingDifference items (Some at) = ItemsDifferFirst items (reading_of (bits_of_items items)) (suc at)
