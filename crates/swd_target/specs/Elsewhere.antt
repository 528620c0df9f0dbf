-- A target over a bus other than its own device. All of it is this project's choice.
use Rattle.std.specs.Prelude.{◌≡◌, Bool, true, false}
use Rattle.swd_port.specs.Bus.{Bus}
use Rattle.swd_port.specs.Completion.{pending_fails}
use Rattle.swd_target.specs.declared.target.Target.{Target}
use Rattle.swd_target.specs.Targets.{target_state, target_simulation}

-- the same target over another device
abbrev pub target_over_device : {D E : Type 0} → E → Target D → Target E
target_over_device device t = record {
  quirks = t.quirks;
  reset = t.reset;
  sticky_error = t.sticky_error;
  write_error = t.write_error;
  read_ok = t.read_ok;
  debug_power = t.debug_power;
  system_power = t.system_power;
  debug_up = t.debug_up;
  system_up = t.system_up;
  select = t.select;
  increments = t.increments;
  csw_upper = t.csw_upper;
  tar = t.tar;
  buffer = t.buffer;
  last_returned = t.last_returned;
  pending = t.pending;
  device = device;
}

-- a bus as a device: it is itself
abbrev pub bus_itself : Bus → Bus
bus_itself bus = bus

-- the pending transfer, if any, would succeed over this bus
abbrev pub IsTargetReady : {D : Type 0} → Bus → Target D → Type 0
IsTargetReady m t = pending_fails t.pending t.tar.word m ≡ false

-- the same, only if WAIT is asked for
abbrev pub IsTargetReadyIf : {D : Type 0} → Bool → Bus → Target D → Type 0
IsTargetReadyIf waits m t = waits ≡ true → IsTargetReady m t

-- Transfers take effect late, and no transfer did: the device's log is unchanged, though the pending one would have
-- succeeded.
pub record IsUntouched {D : Type 0} (bus : D → Bus) (s t : Target D) : Type 0 where
  pub late : s.quirks.late ≡ true
  pub ready : IsTargetReady (bus s.device) s
  pub log : (bus t.device).log ≡ (bus s.device).log

-- nothing changed, neither in the port model nor in the simulated target
pub record TargetStays {D : Type 0} (bus : D → Bus) (s t : Target D) : Type 0 where
  pub state : target_state bus t ≡ target_state bus s
  pub exact : target_simulation bus t ≡ target_simulation bus s
