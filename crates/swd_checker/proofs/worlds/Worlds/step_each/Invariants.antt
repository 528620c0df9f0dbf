use Rattle.swd_checker.proofs.EachLemmas.{WorldsTransacted}
use Rattle.swd_checker.proofs.worlds.Worlds.step_each.Given as goal

abbrev pub invariant-loop-kept : goal.invariant-loop-kept
invariant-loop-kept l = WorldsTransacted l.clean l.tx l.before l.kept-index l.fn.self l.self
