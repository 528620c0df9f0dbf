use Rattle.std.proofs.Common.{◌-◌, ◌/◌, arith}
use Rattle.swd_resync.proofs.QueueLemmas.{resync_queue_empty, resync_queue_first_bit, resync_queue}
use Rattle.swd_resync.proofs.QueueLemmas.{resync_queue_none_behind}
use Rattle.swd_resync.proofs.held.HeldBits.first.Goals as goal

pub returns-then-self-eq0-clause-none : goal.returns-then-self-eq0-clause-none
returns-then-self-eq0-clause-none c =
    let q = c.args.self.now.queue in
    resync_queue_empty q.front_len q.front q.zeros q.back_len q.back c.if-self-eq0.true
    (resync_queue_none_behind q c.args.self.now.holds.full (omega (arith, c.if-self-eq0.true)))

pub returns-clause-some : goal.returns-clause-some
returns-clause-some c =
    let q = c.args.self.now.queue in (
      resync_queue (q.front_len - 1) (q.front / 2) q.zeros q.back_len q.back,
      resync_queue_first_bit q.front_len q.front q.zeros q.back_len q.back (omega (arith, c.if-self-eq0.false)),
    )
