use Rattle.swd_host.proofs.Words.{◌-◌}
use Rattle.swd_host.proofs.Foreseeing.{EngineForeseesSoFar}
use Rattle.swd_host.proofs.engine.Engine.coming.Given as goal

abbrev pub invariant-loop : goal.invariant-loop
invariant-loop l = EngineForeseesSoFar l.fn.self l.fn.after l.coming.items (160 - l.counter) l.engine l.left
