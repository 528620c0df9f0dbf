use Rattle.swd_resync.proofs.FrontLemmas.{resync_front_none, resync_front_kept}
use Rattle.swd_resync.proofs.moves.followed_step.Goals as goal

pub returns-then-next-clause-behind : goal.returns-then-next-clause-behind
returns-then-next-clause-behind c = λ bits seen. resync_front_none _ bits

pub returns-else-next-clause-behind : goal.returns-else-next-clause-behind
returns-else-next-clause-behind c = λ bits seen. resync_front_kept _ c.args.follower bits c.if-next.false seen
