use Rattle.std.proofs.Common.{◌≤◌, arith}
use Rattle.swd_resync.proofs.QueueLemmas.{resync_queue_front_holds}
use Rattle.swd_resync.proofs.held.HeldBits.without.Goals as goal

pub shifted-requires-clause-within : goal.shifted-requires-clause-within
shifted-requires-clause-within c = resync_queue_front_holds c.args.self.now.queue c.args.self.now.holds.full
    c.args.count (let m : c.args.count ≤ 50 = c.requires.most in omega arith) c.requires.held
