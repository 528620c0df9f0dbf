use Rattle.std.proofs.Common.{arith, refl}
use Rattle.swd_conform.proofs.RunLemmas.{conform_makes_none, conform_makes_trans}
use Rattle.swd_conform.proofs.run.ConformRun.ask_once.Goals as goal

pub returns-then-not-is_lost : goal.returns-then-not-is_lost
returns-then-not-is_lost g c =
    conform_makes_trans g.W.Wire.notes 2 1 1 _ _ _ _ _ _ (omega arith) c.transact-waits.ensures
    (conform_makes_trans g.W.Wire.notes 1 1 0 _ _ _ _ _ _ (omega arith) c.transact.ensures
    (conform_makes_none g.W.Wire.notes _ _ _ refl refl refl refl refl))

pub returns-else-not-is_lost : goal.returns-else-not-is_lost
returns-else-not-is_lost g c =
    conform_makes_trans g.W.Wire.notes 2 1 1 _ _ _ _ _ _ (omega arith) c.transact-waits.ensures
    (conform_makes_trans g.W.Wire.notes 1 1 0 _ _ _ _ _ _ (omega arith) c.transact.ensures
    (conform_makes_none g.W.Wire.notes _ _ _ refl refl refl refl refl))
