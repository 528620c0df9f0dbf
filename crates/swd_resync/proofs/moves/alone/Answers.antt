use Rattle.swd_resync.proofs.FrontLemmas.{resync_front_none}
use Rattle.swd_resync.proofs.moves.alone.Goals as goal

pub returns-in-Some-clause-behind : goal.returns-in-Some-clause-behind
returns-in-Some-clause-behind c = λ bits. resync_front_none _ _
