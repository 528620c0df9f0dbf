use Rattle.swd_trace.proofs.ItemBitsLemmas.{legal_item_is_encodable}
use Rattle.swd_trace.proofs.listing.normal.take_item.Goals as goal

pub of-left-requires : goal.of-left-requires
of-left-requires c = legal_item_is_encodable c.args.item.now c.requires.legal
