use Rattle.swd_resync.proofs.HoldLemmas.{resync_held_len_is}
use Rattle.swd_resync.proofs.held.HeldBits.has_len.Goals as goal

pub returns : goal.returns
returns c = λ same. resync_held_len_is c.args.self.now.queue c.args.self.now.holds c.args.len c.requires.most same
