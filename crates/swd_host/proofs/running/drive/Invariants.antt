use Rattle.swd_host.proofs.Words.{◌≡◌, engine_calls_left, EngineDueFits, EngineWorks, EngineGoesWithPort}
use Rattle.swd_host.specs.Calls.{EngineTurns}
use Rattle.swd_host.specs.Sent.{HostCalls}
use Rattle.swd_host.proofs.running.drive.Given as goal

abbrev pub invariant-loop-outcome : goal.invariant-loop-outcome
invariant-loop-outcome g l = record {
  due : EngineDueFits l.engine (g.W.Wire.port l.wire);
  works : EngineWorks l.fn.engine l.engine;
  goes : g.W.Wire.lawful l.wire → g.W.Wire.lawful l.fn.wire
      × EngineGoesWithPort l.fn.engine (g.W.Wire.port l.fn.wire) l.engine (g.W.Wire.port l.wire);
  plan : g.W.Wire.plan l.wire ≡ g.W.Wire.plan l.fn.wire;
  made : HostCalls g.W.Wire.notes (λ calls. EngineTurns l.fn.engine calls l.engine) l.fn.wire l.wire;
}

abbrev pub decreases-loop-outcome : goal.decreases-loop-outcome
decreases-loop-outcome g l = engine_calls_left l.engine
