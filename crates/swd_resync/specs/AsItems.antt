-- A capture as the items of a trace.
use Rattle.std.specs.Prelude.{false, List, [], ◌∷◌, ◌++◌, replicate}
use Rattle.swd_trace.specs.declared.item.Item.{Item}
use Rattle.swd_trace.specs.declared.item.Item.TheVariants.{Idle, Tx, Junk}
use Rattle.swd_resync.specs.declared.part.Part.{Part}
use Rattle.swd_resync.specs.declared.part.Part.TheVariants.{Item as Told, Phased, Skip}

-- Each bit of a skip belongs to nothing, and the data phase behind WAIT and FAULT is 33 idle cycles: so nothing is
-- known of the target behind a skip, and each part has its number of bits.
abbrev pub resync_part_items : Part → List Item
resync_part_items (Told item) = item ∷ []
resync_part_items (Phased tx) = Tx tx ∷ Idle 33 ∷ []
resync_part_items (Skip n) = replicate n (Junk false)

abbrev pub resync_items : List Part → List Item
resync_items [] = []
resync_items (part ∷ parts) = resync_part_items part ++ resync_items parts
