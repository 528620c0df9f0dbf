use Rattle.swd_resync.proofs.QueueLemmas.{resync_window_in_front}
use Rattle.swd_resync.proofs.held.HeldBits.window.Goals as goal

pub returns-clause-first : goal.returns-clause-first
returns-clause-first c = resync_window_in_front c.args.self.now.queue c.args.self.now.holds c.min-len.result
    c.min-len.ensures
