use Rattle.std.proofs.Common.{arith}
use Rattle.swd_resync.proofs.QueueLemmas.{resync_queue_join_front, resync_queue_join_masked_lt}
use Rattle.swd_resync.proofs.queue.Queue.with_front.Goals as goal

pub returns-clause-bits : goal.returns-clause-bits
returns-clause-bits c =
    let q = c.args.self in
    resync_queue_join_front q.front_len q.front q.zeros q.back_len q.back c.args.count c.args.bits
    c.requires.held.queue.front_whole c.requires.room c.requires.alone

pub returns-clause-held : goal.returns-clause-held
returns-clause-held c =
    let q = c.args.self in
    let room = c.requires.room in
    record {
      queue = record {
        front_whole = resync_queue_join_masked_lt 128 q.front_len q.front c.args.count c.args.bits
            c.requires.held.queue.front_whole (omega arith) (omega arith);
        front_short = omega arith;
        back_whole = c.requires.held.queue.back_whole;
        back_short = c.requires.held.queue.back_short;
      };
      full = λ h. absurd (omega (arith, c.requires.alone));
      ends = c.requires.held.ends;
    }
