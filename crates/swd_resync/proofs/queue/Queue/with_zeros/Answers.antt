use Rattle.std.proofs.Common.{◌+◌, arith}
use Rattle.swd_resync.proofs.QueueLemmas.{resync_queue_wider, resync_queue_zeros_moved}
use Rattle.swd_resync.proofs.queue.Queue.with_zeros.Goals as goal

pub returns-clause-queue : goal.returns-clause-queue
returns-clause-queue c = record {
  front_whole = resync_queue_wider c.args.self.front_len (c.args.self.front_len + c.min-count.result) c.args.self.front
      c.requires.front_whole (omega arith);
  front_short = omega arith;
  back_whole = c.requires.back_whole;
  back_short = c.requires.back_short;
}

pub returns-clause-bits : goal.returns-clause-bits
returns-clause-bits c = resync_queue_zeros_moved c.args.self.front_len c.args.self.front c.args.self.zeros
    c.min-count.result c.args.self.back_len c.args.self.back c.requires.front_whole (omega arith)
