use Rattle.std.proofs.Common.{arith}
use Rattle.swd_conform.proofs.RunLemmas.{conform_makes_trans}
use Rattle.swd_conform.proofs.run.ConformRun.reads_powers.Goals as goal

pub returns : goal.returns
returns g c =
    conform_makes_trans g.W.Wire.notes 1 1 0 _ _ _ _ _ _ (omega arith) c.transact.ensures c.idle.ensures
