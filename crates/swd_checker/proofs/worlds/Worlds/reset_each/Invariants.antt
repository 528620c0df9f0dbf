use Rattle.swd_checker.proofs.EachLemmas.{WorldsReset}
use Rattle.swd_checker.proofs.worlds.Worlds.reset_each.Given as goal

abbrev pub invariant-loop-kept : goal.invariant-loop-kept
invariant-loop-kept l = WorldsReset l.before l.kept-index l.fn.self l.self
