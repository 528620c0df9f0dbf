-- The place of an item in its trace.
use Rattle.std.specs.Prelude.{ℕ, ◌-◌, ◌^◌, ◌==◌, min, List, [], ◌∷◌, ◌++◌, length, codes, if◌then◌else◌}
use Rattle.std.specs.Fmt.{decimal}
use Rattle.swd_trace.specs.declared.item.Item.{Item}
use Rattle.swd_trace.specs.Texts.{bits_of_items}

-- the number of bits of these items, at most 2^64 - 1: the place of the next item
abbrev pub capture_place_behind : List Item → ℕ
capture_place_behind items = min (length (bits_of_items items)) (2 ^ 64 - 1)

-- the beginning of a line with a place
abbrev pub capture_place_prefix : ℕ → List ℕ
capture_place_prefix place = codes "@" ++ decimal place ++ codes " "

-- what the places of a ten begin with: all but a space and the last digit
abbrev pub capture_tens_prefix : ℕ → List ℕ
capture_tens_prefix tens = 64 ∷ (if tens == 0 then [] else decimal tens)
