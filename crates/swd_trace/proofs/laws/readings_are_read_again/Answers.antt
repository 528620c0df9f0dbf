use Rattle.swd_trace.specs.declared.mode.Mode.TheVariants.{Synced}
use Rattle.swd_trace.proofs.RereadLemmas.{item_reread_same_reading}
use Rattle.swd_trace.proofs.laws.readings_are_read_again.Goals as goal

pub returns : goal.returns
returns c = item_reread_same_reading Synced
