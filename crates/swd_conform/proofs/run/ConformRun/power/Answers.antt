use Rattle.std.proofs.Common.{arith, refl}
use Rattle.swd_conform.proofs.RunLemmas.{conform_makes_more, conform_makes_none, conform_makes_trans}
use Rattle.swd_conform.proofs.run.ConformRun.power.Goals as goal

pub loop-read-init : goal.loop-read-init
loop-read-init g c = conform_makes_none g.W.Wire.notes _ _ _ refl refl refl refl refl

pub loop-read-preserved : goal.loop-read-preserved
loop-read-preserved g c =
    conform_makes_trans g.W.Wire.notes _ _ 1 _ _ _ _ _ _ (omega arith) c.loop-read.invariant c.reads_powers.ensures

pub returns-then-reads_powers : goal.returns-then-reads_powers
returns-then-reads_powers g c =
    conform_makes_trans g.W.Wire.notes 256 _ 1 _ _ _ _ _ _ (omega arith) c.loop-read.invariant c.reads_powers.ensures

pub returns : goal.returns
returns g c =
    conform_makes_trans g.W.Wire.notes 256 256 0 _ _ _ _ _ _ (omega arith)
    (conform_makes_more g.W.Wire.notes _ 256 _ _ _ _ (omega (arith, c.loop-read.auto.read-end)) c.loop-read.invariant)
    (conform_makes_none g.W.Wire.notes _ _ _ refl refl refl refl refl)
