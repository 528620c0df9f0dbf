use Rattle.std.proofs.Common.{arith, refl}
use Rattle.swd_conform.proofs.RunLemmas.{conform_makes_none, conform_makes_trans}
use Rattle.swd_conform.proofs.run.ConformRun.complete.Goals as goal

pub returns-then-has_read : goal.returns-then-has_read
returns-then-has_read g c =
    conform_makes_trans g.W.Wire.notes 0 0 0 _ _ _ _ _ _ (omega arith) c.step-self.ensures.makes
    (conform_makes_none g.W.Wire.notes _ _ _ refl refl refl refl refl)

pub returns-then-has_write : goal.returns-then-has_write
returns-then-has_write g c = c.call.ensures.makes

pub returns-then-has_refusal : goal.returns-then-has_refusal
returns-then-has_refusal g c = c.call-then-has_refusal.ensures.makes

pub returns-else-has_refusal : goal.returns-else-has_refusal
returns-else-has_refusal g c = conform_makes_none g.W.Wire.notes _ _ _ refl refl refl refl refl
