use Rattle.std.specs.Prelude.{take}
use Rattle.swd_checker.proofs.FittingLemmas.{CheckerFits}
use Rattle.swd_checker.proofs.whole.shown_items.Given as goal

abbrev pub invariant-loop-index : goal.invariant-loop-index
invariant-loop-index l = CheckerFits l.clean l.items (take l.index l.items) l.checker
