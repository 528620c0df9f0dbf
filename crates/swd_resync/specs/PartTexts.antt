-- The line of a part. The format is this project's choice.
use Rattle.std.specs.Prelude.{ℕ, List, ◌++◌, codes}
use Rattle.std.specs.Fmt.{decimal}
use Rattle.swd_trace.specs.declared.item.Item.TheVariants.{Tx}
use Rattle.swd_trace.specs.Texts.{item_line}
use Rattle.swd_resync.specs.declared.part.Part.{Part}
use Rattle.swd_resync.specs.declared.part.Part.TheVariants.{Item as Told, Phased, Skip}

-- without its line feed
abbrev pub resync_part_line : Part → List ℕ
resync_part_line (Told item) = item_line item
resync_part_line (Phased tx) = item_line (Tx tx)
resync_part_line (Skip n) = codes "skip " ++ decimal n
