use Rattle.std.specs.Prelude.{take}
use Rattle.swd_checker.proofs.WholeLemmas.{CheckerRuns}
use Rattle.swd_checker.proofs.whole.broken_item.Given as goal

abbrev pub invariant-loop-index : goal.invariant-loop-index
invariant-loop-index l = CheckerRuns l.fn.start l.clean (take l.index l.items) l.checker
