-- The remaining bits of an item.
use Rattle.std.specs.Prelude.{Bool, List, ◌++◌, replicate}
use Rattle.swd_bits.specs.Bits.{low_bits}
use Rattle.swd_trace.specs.declared.item_bits.ItemBits.{ItemBits}

-- the run, then the other bits
abbrev pub item_bits_left : ItemBits → List Bool
item_bits_left b = replicate b.run b.one ++ low_bits b.len b.bits
