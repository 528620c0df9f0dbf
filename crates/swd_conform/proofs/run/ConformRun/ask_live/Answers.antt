use Rattle.std.proofs.Common.{arith}
use Rattle.swd_conform.proofs.RunLemmas.{conform_makes_more, conform_makes_trans}
use Rattle.swd_conform.proofs.run.ConformRun.ask_live.Goals as goal

pub returns-then-revive : goal.returns-then-revive
returns-then-revive g c =
    conform_makes_trans g.W.Wire.notes 256 128 128 _ _ _ _ _ _ (omega arith) c.revive.ensures c.ask.ensures

pub returns-else-revive : goal.returns-else-revive
returns-else-revive g c = conform_makes_more g.W.Wire.notes 128 256 _ _ _ _ (omega arith) c.revive.ensures
