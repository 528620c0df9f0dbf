-- The remaining bytes of an item's trace text.
use Rattle.std.specs.Prelude.{ℕ, Bool, true, false, List, [], ◌∷◌, ◌++◌, map}
use Rattle.swd_trace.specs.ItemBits.{item_bits_left}
use Rattle.swd_trace.specs.Texts.{trace_digit}
use Rattle.swd_trace.specs.declared.item_bytes.ItemBytes.{ItemBytes}

-- the line feed, if it remains
abbrev pub item_line_end : Bool → List ℕ
item_line_end true = 10 ∷ []
item_line_end false = []

-- the bits, each as a character, and the line feed
abbrev pub item_bytes_left : ItemBytes → List ℕ
item_bytes_left b = map trace_digit (item_bits_left b.left) ++ item_line_end b.unended
