use Rattle.swd_resync.proofs.ItemLemmas.{resync_parts_items_length}
use Rattle.swd_resync.proofs.laws.places_are_kept.Goals as goal

pub returns : goal.returns
returns c = λ parts bits h. resync_parts_items_length parts bits h
