-- Which writes are confirmed before the next write to an access port is asked. A debug port with a write buffer (IHI
-- 0031, B4, "Write buffering") may accept such a write while the one before it waits; what comes behind it shows.
use Rattle.std.specs.Prelude.{◌≡◌, ◌==◌, ◌&&◌, ◌||◌, not, Bool, true, false, if◌then◌else◌, List, [], ◌∷◌}
use Rattle.swd_port.specs.declared.call.Call.{Call}
use Rattle.swd_port.specs.declared.cue.Cue.{Cue}
use Rattle.swd_port.specs.declared.cue.Cue.TheVariants.{Ask, Give}
use Rattle.swd_port.specs.Answers.{is_exempt_register}
use Rattle.swd_port.specs.Port.{port_register}
use Rattle.swd_port.specs.Registers.{port_select_zero}
use Rattle.swd_port.specs.Steps.{is_port_ask}
use Rattle.swd_host.specs.declared.task.Bursts.{Bursts}
use Rattle.swd_host.specs.declared.task.Bursts.TheVariants.{Writes}
use Rattle.swd_host.specs.Sent.{host_awaits_drw}

-- a write of a register of an access port
abbrev pub host_writes_ap : Cue → Bool
host_writes_ap (Ask q) = q.ap && not q.read
host_writes_ap cue = false

-- a request that is answered OK only once each write before it was made, for SELECT 0
abbrev pub host_waits_for_writes : Cue → Bool
host_waits_for_writes (Ask q) = not (q.ap && not q.read)
    && not (is_exempt_register (port_register port_select_zero q))
host_waits_for_writes cue = false

-- it is answered OK, or a request FAULT
abbrev pub is_host_settling : Call → Bool
is_host_settling call = (host_waits_for_writes call.cue && (call.seen == 1))
    || (is_port_ask call.cue && (call.seen == 4))

-- the cue is the data phase of a DRW write, behind these calls
abbrev pub host_sends_drw : Cue → List Call → Bool
host_sends_drw (Give bits) calls = host_awaits_drw calls
host_sends_drw cue calls = false

-- in these calls, the last one first, the data of a DRW write passed, and nothing settled it since
abbrev pub host_unconfirmed : List Call → Bool
host_unconfirmed [] = false
host_unconfirmed (call ∷ calls) = if host_sends_drw call.cue calls then true else
    if is_host_settling call then false else host_unconfirmed calls

-- no write to an access port is asked while a DRW write is unconfirmed
abbrev pub HostConfirmsEach : List Call → Type 0
HostConfirmsEach [] = Unit {0}
HostConfirmsEach (call ∷ calls) = (host_writes_ap call.cue ≡ true → host_unconfirmed calls ≡ false)
    × HostConfirmsEach calls

-- between two accesses: no DRW write is unconfirmed
pub record HostSettled (calls : List Call) : Type 0 where
  pub each : HostConfirmsEach calls
  pub none : host_unconfirmed calls ≡ false

abbrev pub HostSettles : Bursts → List Call → Type 0
HostSettles Writes calls = Unit {0}
HostSettles kind calls = HostSettled calls

-- the same of every kind of bursts but those of writes, where the next DRW write confirms the one before it
abbrev pub HostConfirms : Bursts → List Call → Type 0
HostConfirms Writes calls = Unit {0}
HostConfirms kind calls = HostConfirmsEach calls
