-- What `swd target` and `swd probe` do on the standard streams.
use Rattle.std.specs.Prelude.{ℕ, ◌≡◌, ◌⊎◌, Bool, false, List, Option, Some, None}
use Rattle.swd_port.specs.Bus.{Bus}
use Rattle.swd_bitbang.specs.declared.serving.Served.{Served}
use Rattle.swd_bitbang.specs.declared.serving.Served.TheVariants.{Quit, Ended}
use Rattle.swd_bitbang.specs.declared.trace.Trace.{Trace}
use Rattle.swd_bitbang.specs.declared.pins.Pins.{Pins}
use Rattle.swd_bitbang.specs.Sessions.{BitbangServes}
use Rattle.swd_bitbang.specs.Traces.{is_pins_trace_cut_off}
use Rattle.swd_packets.specs.declared.packets.SimulatedProbe.{SimulatedProbe}
use Rattle.swd_packets.specs.Packets.{PacketsServe, IsPacketsAtRest, is_packet_cut_off, packets_pins}
use Rattle.swd_run.specs.declared.script_device.ScriptDevice.{ScriptDevice}
use Rattle.swd_run.specs.ScriptDevices.{script_device_bus}
use Rattle.swd_ends.specs.Serving.{SimulatesTargetEnd}
use Rattle.swd_console.specs.Statuses.{CommandNotOpened}

-- nothing is missing of a session: its trace isn't truncated, and its input didn't end within a packet
abbrev pub IsSessionWhole : {D A : Type 0} → Bool → Pins D A → Type 0
IsSessionWhole cut pins = (is_pins_trace_cut_off pins.trace ≡ false) × (cut ≡ false)

-- 0 or 2; 0 only if the host was served to its end, and `Whole` holds: nothing is missing
abbrev pub IsServedCommandStatus : Served → Type 0 → ℕ → Type 0
IsServedCommandStatus Quit Whole status = ((status ≡ 0) × Whole) ⊎ (status ≡ 2)
IsServedCommandStatus Ended Whole status = ((status ≡ 0) × Whole) ⊎ (status ≡ 2)
IsServedCommandStatus served Whole status = status ≡ 2

-- A host was served at these pins, by the characters of remote_bitbang, or by packets of this size. `cut` says whether
-- the input ended within a packet.
abbrev pub ServesHost : {D A : Type 0} → (D → Bus) → Option ℕ → Served → Bool → Option (List ℕ) → Option (List ℕ)
    → Option (List ℕ) → Option (List ℕ) → Pins D A → Pins D A → Type 0
ServesHost bus None served cut text left old new s t = (cut ≡ false) × BitbangServes bus served text left old new s t
ServesHost {D} {A} bus (Some size) served cut text left old new s t =
    (before : SimulatedProbe D A) × (after : SimulatedProbe D A)
    × IsPacketsAtRest s size before × PacketsServe bus served text left old new before after
    × (t ≡ packets_pins after) × (cut ≡ is_packet_cut_off after)

-- Nothing was written, or a host was served at the pins of the target of the script, under the plan, with this IDR or
-- none, and a write buffer or none.
abbrev pub TargetCommandServesHost : (A : Type 0) → ℕ → Option (List ℕ) → Option (List ℕ) → Option ℕ → Bool
    → Option ℕ → Option (List ℕ) → Option (List ℕ) → Option (List ℕ) → Option (List ℕ) → Type 0
TargetCommandServesHost A status script plan idr buffers packets text left old new =
    CommandNotOpened status old new
    ⊎ ((served : Served) × (cut : Bool) × (trace : Trace A) × (s : Pins (ScriptDevice A) A)
    × (t : Pins (ScriptDevice A) A)
    × SimulatesTargetEnd
    script plan idr buffers trace s
    × ServesHost script_device_bus packets served cut text left old new s t
    × IsServedCommandStatus served (IsSessionWhole cut t) status)
