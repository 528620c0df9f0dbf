-- What is kept of a listing while it is read.
use Rattle.std.specs.Prelude.{◌≡◌, ◌≢◌, ℕ, ◌^◌, ◌<◌, List, [], ◌∷◌, ◌++◌, length}
use Rattle.swd_trace.specs.declared.item.Item.{Item}
use Rattle.swd_trace.specs.Listed.{listing_lines, AreItemLines}
use Rattle.swd_trace.specs.Texts.{bits_of_items}

-- no line feed
abbrev pub IsUnbrokenListing : List ℕ → Type 0
IsUnbrokenListing [] = Unit {0}
IsUnbrokenListing (byte ∷ line) = (byte ≢ 10) × IsUnbrokenListing line

-- of the text so far: the items of the complete lines, the current line, and the number of the items' bits
pub record ListingTakes (seen : List ℕ) (items : List Item) (line : List ℕ) (total : ℕ) : Type 0 where
  pub ended : List (List ℕ)
  pub parts : (more : List ℕ) → listing_lines (seen ++ more) ≡ ended ++ listing_lines (line ++ more)
  pub unbroken : IsUnbrokenListing line
  pub each : AreItemLines ended items
  pub only : (others : List Item) → AreItemLines ended others → others ≡ items
  pub total_is : total ≡ length (bits_of_items items)
  pub counted : total < 2 ^ 64
