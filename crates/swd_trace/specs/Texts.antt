-- The bits of items, and their trace and listing texts.
use Rattle.std.specs.Prelude.{ℕ, Bool, true, false, List, [], ◌∷◌, ◌++◌, map, replicate, codes}
use Rattle.std.specs.Fmt.{decimal}
use Rattle.swd_bits.specs.BitLists.{tx_bits_of}
use Rattle.swd_bits.specs.Transactions.{tx_spelling_bits}
use Rattle.swd_bits.specs.Listing.{tx_line}
use Rattle.swd_trace.specs.declared.item.Item.{Item}
use Rattle.swd_trace.specs.declared.item.Item.TheVariants.{Reset, Switch, Idle, Tx, Junk, Cut}
use Rattle.swd_trace.specs.Reading.{switch_item}

-- an item's bits, turnarounds as 1
abbrev pub item_bits : Item → List Bool
item_bits (Reset n) = replicate n true
item_bits Switch = switch_item
item_bits (Idle n) = replicate n false
item_bits (Tx tx) = tx_spelling_bits tx true true
item_bits (Junk b) = b ∷ []
item_bits (Cut bits) = tx_bits_of bits

abbrev pub bits_of_items : List Item → List Bool
bits_of_items [] = []
bits_of_items (item ∷ items) = item_bits item ++ bits_of_items items

-- the character of a bit
abbrev pub trace_digit : Bool → ℕ
trace_digit false = 48
trace_digit true = 49

-- an item's bits as characters, and a line feed
abbrev pub item_text : Item → List ℕ
item_text item = map trace_digit (item_bits item) ++ 10 ∷ []

abbrev pub trace_text : List Item → List ℕ
trace_text [] = []
trace_text (item ∷ items) = item_text item ++ trace_text items

-- an item's listing line, without the line feed
abbrev pub item_line : Item → List ℕ
item_line (Reset n) = codes "reset " ++ decimal n
item_line Switch = codes "switch"
item_line (Idle n) = codes "idle " ++ decimal n
item_line (Tx tx) = tx_line tx
item_line (Junk b) = codes "junk " ++ trace_digit b ∷ []
item_line (Cut bits) = codes "cut " ++ map trace_digit (tx_bits_of bits)

abbrev pub listing : List Item → List ℕ
listing [] = []
listing (item ∷ items) = (item_line item ++ 10 ∷ []) ++ listing items
