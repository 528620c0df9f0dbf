use Rattle.std.proofs.Common.{refl}
use Rattle.swd_conform.proofs.RunLemmas.{conform_makes_none}
use Rattle.swd_conform.proofs.run.ConformRun.free.Goals as goal

pub returns-then-is_free-clause-makes : goal.returns-then-is_free-clause-makes
returns-then-is_free-clause-makes g c = conform_makes_none g.W.Wire.notes _ _ _ refl refl refl refl refl
