use Rattle.swd_trace.proofs.ItemBitsLemmas.{legal_item_is_encodable}
use Rattle.swd_trace.proofs.item_bytes.ItemBytes.of.Goals as goal

pub of-requires : goal.of-requires
of-requires c = legal_item_is_encodable c.args.item.now c.requires
