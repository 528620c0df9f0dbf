use Rattle.std.proofs.Common.{arith}
use Rattle.swd_resync.proofs.QueueLemmas.{resync_queue_join_back, resync_queue_join_masked_lt, resync_queue_join_odd}
use Rattle.swd_resync.proofs.queue.Queue.with_back.Goals as goal

pub returns-clause-bits : goal.returns-clause-bits
returns-clause-bits c =
    let q = c.args.self in
    resync_queue_join_back q.front_len q.front q.zeros q.back_len q.back c.args.count c.args.bits
    c.requires.held.queue.back_whole c.requires.room

pub returns-clause-held : goal.returns-clause-held
returns-clause-held c =
    let q = c.args.self in
    let room = c.requires.room in
    record {
      queue = record {
        front_whole = c.requires.held.queue.front_whole;
        front_short = c.requires.held.queue.front_short;
        back_whole = resync_queue_join_masked_lt 64 q.back_len q.back c.args.count c.args.bits
            c.requires.held.queue.back_whole (omega arith) (omega arith);
        back_short = room;
      };
      full = λ h. c.requires.full;
      ends = λ h. resync_queue_join_odd q.back_len q.back c.args.count c.args.bits c.requires.held.queue.back_whole room
          h c.requires.held.ends c.requires.one;
    }
