-- Which access an engine may start.
use Rattle.std.specs.Prelude.{◌&&◌, ◌||◌, Bool, true, false, not, Some, ◌^◌, ◌<◌}
use Rattle.swd_port.specs.declared.access.Access.{Access}
use Rattle.swd_host.specs.declared.engine.Ahead.{Ahead}
use Rattle.swd_host.specs.declared.engine.Ahead.TheVariants.{Unsent}
use Rattle.swd_host.specs.declared.engine.Engine.{Engine}
use Rattle.swd_host.specs.Addresses.{continues_burst}
use Rattle.swd_host.specs.Engines.{engine_outcome, engine_is_ahead, engine_may_start}
use Rattle.swd_host.specs.Plain.{host_access_is_aligned}
use Rattle.swd_host.specs.Tasks.{access_of_task}
use Rattle.swd_port.specs.declared.access.Access.TheVariants.{Read, Write}

abbrev pub engine_next_is_unsent : Ahead → Bool
engine_next_is_unsent Unsent = true
engine_next_is_unsent ahead = false

-- the DRW request of the next access was answered OK, which confirmed the current one
abbrev pub engine_has_sent_next : Engine → Bool
engine_has_sent_next e = engine_is_ahead e || not (engine_next_is_unsent e.ahead)

-- An access may start now. Where the DRW request of the next one was sent already, the access has to continue the
-- burst.
abbrev pub engine_accepts : Engine → Access → Bool
engine_accepts e a = engine_may_start (engine_outcome e) && host_access_is_aligned a
    && (not (engine_has_sent_next e) || continues_burst (access_of_task e.task) (Some a))

-- the numbers of an access have 32 bits, as they always do in code
abbrev pub HostAccessHasRanges : Access → Type 0
HostAccessHasRanges (Read at) = at < 2 ^ 32
HostAccessHasRanges (Write at word) = (at < 2 ^ 32) × (word < 2 ^ 32)
