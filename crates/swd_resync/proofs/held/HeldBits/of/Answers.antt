use Rattle.std.proofs.Common.{arith}
use Rattle.swd_resync.proofs.HoldLemmas.{resync_held_empty}
use Rattle.swd_resync.proofs.QueueLemmas.{resync_queue_none_behind}
use Rattle.swd_resync.proofs.held.HeldBits.of.Goals as goal

pub with_front-requires-clause-alone : goal.with_front-requires-clause-alone
with_front-requires-clause-alone c =
    let none = resync_held_empty c.new.result c.new.ensures.bits in
    resync_queue_none_behind c.new.result c.new.ensures.held.full (omega arith)

pub with_front-requires-clause-room : goal.with_front-requires-clause-room
with_front-requires-clause-room c =
    let none = resync_held_empty c.new.result c.new.ensures.bits in
    let most = c.requires.most in
    omega arith
