-- What is written for a listing that is to be encoded.
use Rattle.std.specs.Prelude.{ℕ, List, [], Option, Result, Ok, Err, IfSome}
use Rattle.std.specs.Io.KnownBytes.{Appends}
use Rattle.swd_trace.specs.declared.item.Item.{Item}
use Rattle.swd_trace.specs.Listed.{listing_lines, ListsItems, IsNormalListing, RefusesListing}
use Rattle.swd_trace.specs.Texts.{trace_text}
use Rattle.swd_io.specs.Blocks.{OutputStopped}
use Rattle.swd_text.specs.declared.fault.EncodeFault.{EncodeFault}
use Rattle.swd_text.specs.declared.fault.EncodeFault.TheVariants.{List as Unlisted, Write}

-- the text lists these items, and the list is normal: it is the reading of its own bits
pub record EncodeTextListsNormal (items : List Item) (text : List ℕ) : Type 0 where
  pub lists : ListsItems (listing_lines text) items
  pub normal : IsNormalListing items

-- What a result says of the reader's text, if its bytes are known, and of what the writer holds before and
-- after.
abbrev pub Encodes : Result (Unit {0}) EncodeFault → Option (List ℕ) → Option (List ℕ) → Option (List ℕ) → Type 0
Encodes (Ok u) text old new = (items : List Item) × IfSome text (EncodeTextListsNormal items)
    × Appends old new (trace_text items)
Encodes (Err (Unlisted fault)) text old new = IfSome text (λ bytes. RefusesListing fault (listing_lines bytes))
    × Appends old new []
Encodes (Err (Write told)) text old new = (items : List Item) × IfSome text (EncodeTextListsNormal items)
    × OutputStopped told old new (trace_text items)
