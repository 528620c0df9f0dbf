use Rattle.std.proofs.Common.{refl}
use Rattle.swd_conform.proofs.RunLemmas.{conform_goes_none, conform_goes_trans}
use Rattle.swd_conform.proofs.run.ConformRun.turn.Goals as goal

pub returns-in-None-clause-goes : goal.returns-in-None-clause-goes
returns-in-None-clause-goes g c =
    conform_goes_trans g.W.Wire.notes _ _ _ _ _ _ (conform_goes_none g.W.Wire.notes _ _ _ refl refl refl)
    c.idle.ensures.goes

pub returns-then-not-is_broken-clause-goes : goal.returns-then-not-is_broken-clause-goes
returns-then-not-is_broken-clause-goes g c =
    conform_goes_trans g.W.Wire.notes _ _ _ _ _ _ (conform_goes_none g.W.Wire.notes _ _ _ refl refl refl)
    c.send.ensures.goes

pub returns-else-not-is_broken-clause-goes : goal.returns-else-not-is_broken-clause-goes
returns-else-not-is_broken-clause-goes g c =
    conform_goes_trans g.W.Wire.notes _ _ _ _ _ _ (conform_goes_none g.W.Wire.notes _ _ _ refl refl refl)
    c.send.ensures.goes
