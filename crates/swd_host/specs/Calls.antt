-- The successive calls of a wire that an engine asks for, the last one first.
use Rattle.std.specs.Prelude.{◌≡◌, false, Option, Some, List, [], ◌∷◌}
use Rattle.swd_port.specs.declared.access.Access.{Access}
use Rattle.swd_port.specs.declared.call.Call.{Call}
use Rattle.swd_port.specs.declared.cue.Cue.TheVariants.{Lead}
use Rattle.swd_port.specs.Steps.{IsPortSeen}
use Rattle.swd_host.specs.declared.engine.Engine.{Engine}
use Rattle.swd_host.specs.Engines.{engine_cue}
use Rattle.swd_host.specs.Replies.{EngineTookReply}
use Rattle.swd_host.specs.Turns.{EngineStarts}

-- the engine asked for this call, and took its reply
pub record EngineTurned (call : Call) (e f : Engine) : Type 0 where
  pub cue : engine_cue e ≡ Some call.cue
  pub seen : IsPortSeen call.cue call.seen
  pub replied : EngineTookReply call.cue call.seen e f

abbrev pub EngineTurns : Engine → List Call → Engine → Type 0
EngineTurns e [] f = f ≡ e
EngineTurns e (call ∷ calls) f = (g : Engine) × EngineTurns e calls g × EngineTurned call g f

-- an access starts, and these calls are made for it
abbrev pub EngineTurnsFrom : Access → Option Access → Engine → List Call → Engine → Type 0
EngineTurnsFrom a following e calls f = (g : Engine) × EngineStarts a following e g × EngineTurns g calls f

-- the call that makes eight idle cycles
abbrev pub host_idle_call : Call
host_idle_call = record { cue = Lead 0 0 false 8; seen = 0 }
