use Rattle.std.proofs.Common.{length}
use Rattle.swd_host.proofs.Foreseeing.{TakesUpAlong}
use Rattle.swd_host.proofs.engine.Engine.take_up.Given as goal

-- what the engine and the accesses that are left lead to is what those of the call do
abbrev pub invariant-loop-self : goal.invariant-loop-self
invariant-loop-self l = TakesUpAlong l.initial.self l.initial.rest l.self l.rest

-- each iteration takes up one more access
abbrev pub decreases-loop-self : goal.decreases-loop-self
decreases-loop-self l = length l.rest
