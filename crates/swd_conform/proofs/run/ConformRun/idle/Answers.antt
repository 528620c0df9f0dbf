use Rattle.std.proofs.Common.{refl}
use Rattle.swd_conform.proofs.RunLemmas.{conform_makes_none}
use Rattle.swd_conform.proofs.run.ConformRun.idle.Goals as goal

pub returns-then-is_free : goal.returns-then-is_free
returns-then-is_free g c = c.call.ensures.makes

pub returns-else-is_free : goal.returns-else-is_free
returns-else-is_free g c = conform_makes_none g.W.Wire.notes _ _ _ refl refl refl refl refl
