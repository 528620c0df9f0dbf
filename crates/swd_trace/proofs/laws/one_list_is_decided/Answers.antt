use Rattle.swd_trace.proofs.LawLemmas.{decided_items_unique}
use Rattle.swd_trace.proofs.laws.one_list_is_decided.Goals as goal

pub returns : goal.returns
returns c = decided_items_unique
