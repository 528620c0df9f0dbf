use Rattle.std.specs.Prelude.{take}
use Rattle.swd_checker.proofs.BeginsLemmas.{CheckerFitsFrom}
use Rattle.swd_checker.proofs.whole.shown_from.Given as goal

abbrev pub invariant-loop-index : goal.invariant-loop-index
invariant-loop-index l = CheckerFitsFrom l.fn.start l.clean l.items (take l.index l.items) l.checker
