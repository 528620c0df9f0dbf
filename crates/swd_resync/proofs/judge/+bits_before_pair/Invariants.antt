use Rattle.swd_resync.proofs.judge.+bits_before_pair.Given as goal

abbrev pub decreases-bits_before_pair : goal.decreases-bits_before_pair
decreases-bits_before_pair l = l.count
