use Rattle.swd_ends.proofs.ClockLemmas.{clocked_probe_no_levels}
use Rattle.swd_ends.proofs.clocked_probe.ClockedProbe.new.Goals as goal

pub returns-clause-waits : goal.returns-clause-waits
returns-clause-waits g c = clocked_probe_no_levels 0
