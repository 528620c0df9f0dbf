use Rattle.std.proofs.Common.{arith}
use Rattle.swd_conform.proofs.RunLemmas.{conform_makes_trans}
use Rattle.swd_conform.proofs.run.ConformRun.transact.Goals as goal

pub returns : goal.returns
returns g c =
    conform_makes_trans g.W.Wire.notes 1 1 0 _ _ _ _ _ _ (omega arith) c.request-waits.ensures c.complete.ensures
