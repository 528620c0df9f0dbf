use Rattle.swd_resync.proofs.EqualLemmas.{resync_parts_are_items}
use Rattle.swd_resync.proofs.laws.what_is_never_lost_is_told.Goals as goal

pub returns : goal.returns
returns c = λ bits h o. resync_parts_are_items bits h o
