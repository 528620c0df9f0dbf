use Rattle.std.proofs.Common.{length}
use Rattle.swd_core.proofs.action.+put_writes.Given as goal

abbrev pub decreases-put_writes : goal.decreases-put_writes
decreases-put_writes g l = length l.writes.now
