use Rattle.std.proofs.Common.{arith, refl}
use Rattle.swd_conform.proofs.RunLemmas.{conform_makes_more, conform_makes_none}
use Rattle.swd_conform.proofs.run.ConformRun.revive.Goals as goal

pub returns-then-not-is_lost : goal.returns-then-not-is_lost
returns-then-not-is_lost g c =
    conform_makes_more g.W.Wire.notes 0 128 _ _ _ _ (omega arith)
    (conform_makes_none g.W.Wire.notes _ _ _ refl refl refl refl refl)
