use Rattle.std.specs.Prelude.{false, replicate}
use Rattle.swd_trace.specs.declared.item.Item.TheVariants.{Junk}
use Rattle.swd_check.specs.Watched.{CheckTakes}
use Rattle.swd_check.proofs.check.Check.skip.Given as goal

abbrev pub invariant-loop-taken : goal.invariant-loop-taken
invariant-loop-taken g l = CheckTakes (replicate l._taken (Junk false)) l.fn.self l.self
