use Rattle.std.specs.Prelude.{take}
use Rattle.swd_host.specs.Plain.{AreHostAccesses}
use Rattle.swd_steps.proofs.run.unaligned.Given as goal

abbrev pub invariant-loop-index : goal.invariant-loop-index
invariant-loop-index g l = record { are : AreHostAccesses (take l.index (g.L.Accesses.list l.accesses)) }
