use Rattle.std.proofs.Common.{refl}
use Rattle.swd_resync.proofs.QueueLemmas.{resync_queue_empty}
use Rattle.swd_resync.proofs.queue.Queue.new.Goals as goal

pub returns-clause-bits : goal.returns-clause-bits
returns-clause-bits c = resync_queue_empty 0 0 0 0 0 refl refl
