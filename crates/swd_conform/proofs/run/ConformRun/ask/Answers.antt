use Rattle.std.proofs.Common.{arith, refl}
use Rattle.swd_conform.proofs.RunLemmas.{conform_makes_more, conform_makes_none, conform_makes_trans}
use Rattle.swd_conform.proofs.run.ConformRun.ask.Goals as goal

pub loop-tried-init : goal.loop-tried-init
loop-tried-init g c = conform_makes_none g.W.Wire.notes _ _ _ refl refl refl refl refl

pub loop-tried-preserved : goal.loop-tried-preserved
loop-tried-preserved g c =
    conform_makes_trans g.W.Wire.notes _ _ 2 _ _ _ _ _ _ (omega arith) c.loop-tried.invariant c.ask_once.ensures

pub returns-then-not-ask_once : goal.returns-then-not-ask_once
returns-then-not-ask_once g c =
    conform_makes_trans g.W.Wire.notes 128 _ 2 _ _ _ _ _ _ (omega arith) c.loop-tried.invariant c.ask_once.ensures

pub returns : goal.returns
returns g c =
    conform_makes_trans g.W.Wire.notes 128 128 0 _ _ _ _ _ _ (omega arith)
    (conform_makes_more g.W.Wire.notes _ 128 _ _ _ _ (omega (arith, c.loop-tried.auto.tried-end))
    c.loop-tried.invariant)
    (conform_makes_none g.W.Wire.notes _ _ _ refl refl refl refl refl)
