use Rattle.std.proofs.Common.{arith, refl}
use Rattle.swd_conform.proofs.RunLemmas.{conform_makes_none, conform_makes_trans}
use Rattle.swd_conform.proofs.run.ConformRun.request.Goals as goal

pub returns : goal.returns
returns g c =
    conform_makes_trans g.W.Wire.notes 1 0 1 _ _ _ _ _ _ (omega arith) c.free.ensures.makes
    (conform_makes_trans g.W.Wire.notes 1 1 0 _ _ _ _ _ _ (omega arith) c.step-seen.ensures.makes
    (conform_makes_none g.W.Wire.notes _ _ _ refl refl refl refl refl))
