use Rattle.swd_checker.proofs.HoldingLemmas.{WorldsAdding}
use Rattle.swd_checker.proofs.worlds.Worlds.add.Given as goal

abbrev pub invariant-loop : goal.invariant-loop
invariant-loop l = WorldsAdding l.fn.self l.fn.world l.self l.added
