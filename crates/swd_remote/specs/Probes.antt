-- A connection to a debug probe from its beginning to its end: its calls.
use Rattle.std.specs.Prelude.{ℕ, ◌≡◌, List, Option, Some, None}
use Rattle.swd_port.specs.Transports.{PortAttempt}
use Rattle.swd_dap.specs.declared.packets.DapFault.{DapFault}
use Rattle.swd_dap.specs.declared.reports.Reports.{Reports}
use Rattle.swd_dap.specs.declared.transport.DapTransport.{DapTransport}
use Rattle.swd_dap.specs.Packets.{DapExchange}
use Rattle.swd_dap.specs.Calls.{AreDapCallsMade, DapHangsUp, dap_in_doubt}
use Rattle.swd_remote.specs.declared.kept.RemoteStreams.{RemoteStreams}
use Rattle.swd_remote.specs.declared.remote.Fault.{Fault}
use Rattle.swd_remote.specs.declared.remote.Fault.TheVariants.{Probe}

-- what reports state of the packets that were exchanged: nothing
abbrev pub HasProbeExchanged : {R W : Type 0} → List DapExchange → Reports R W → Type 0
HasProbeExchanged met reports = Unit {0}

-- Exactly these calls were made since the beginning, in order, each as a transport over packets performs it, with SWCLK
-- driven at this rate.
pub record AreProbeCallsMade {R W : Type 0} (speed : ℕ) (calls : List PortAttempt) (t : DapTransport (Reports R W)) :
    Type 0 where
  pub made : AreDapCallsMade HasProbeExchanged calls t
  pub rate : made.start.speed ≡ speed

-- the error of a line whose probe ended so
abbrev pub probe_fault : Option DapFault → Option Fault
probe_fault None = None
probe_fault (Some fault) = Some (Probe fault)

-- These calls were made up to the end of a connection, and then the probe was told to release its pins, if it was told
-- to drive them and no error came.
pub record ProbeHangsUp {R W : Type 0} (speed : ℕ) (calls : List PortAttempt) (line : RemoteStreams R W) : Type 0 where
  pub last : DapTransport (Reports R W)
  pub made : AreProbeCallsMade speed calls last
  pub end : Reports R W
  pub told : Option DapFault
  pub ends : DapHangsUp last.fault last.opened HasProbeExchanged last.packets end told
  pub reader : line.reader ≡ end.reader
  pub writer : line.writer ≡ end.writer
  pub fault : line.fault ≡ probe_fault told
  pub in_doubt : line.in_doubt ≡ dap_in_doubt last
