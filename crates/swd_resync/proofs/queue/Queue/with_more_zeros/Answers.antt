use Rattle.swd_resync.proofs.QueueLemmas.{resync_queue_join_zeros}
use Rattle.swd_resync.proofs.queue.Queue.with_more_zeros.Goals as goal

pub returns-clause-bits : goal.returns-clause-bits
returns-clause-bits c =
    let q = c.args.self in
    resync_queue_join_zeros q.front_len q.front q.zeros c.args.count c.from.result q.back_len q.back c.requires.alone
    c.from.ensures

pub returns-clause-held : goal.returns-clause-held
returns-clause-held c = record {
  queue = record {
    front_whole = c.requires.held.queue.front_whole;
    front_short = c.requires.held.queue.front_short;
    back_whole = c.requires.held.queue.back_whole;
    back_short = c.requires.held.queue.back_short;
  };
  full = λ h. c.requires.full;
  ends = c.requires.held.ends;
}
