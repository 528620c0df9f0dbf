use Rattle.std.proofs.Common.{length}
use Rattle.swd_core.proofs.action.+put_reads.Given as goal

abbrev pub decreases-put_reads : goal.decreases-put_reads
decreases-put_reads g l = length l.registers.now
