use Rattle.std.proofs.Common.{take}
use Rattle.swd_check.specs.Watched.{CheckTakes}
use Rattle.swd_check.proofs.items.CheckedItems.take_all.Given as goal

abbrev pub invariant-loop-item : goal.invariant-loop-item
invariant-loop-item g l = CheckTakes (take l.item-index l.items) l.initial.self.check l.self.check
