-- The state of the port model: a debug port of ADIv5.2 with one memory access port, AP 0.
-- Source: IHI 0031, B4, "Packet request"; and B2, "SELECT, AP Select register".
pub use Rattle.swd_port.specs.declared.register.Register.{Register}
pub use Rattle.swd_port.specs.declared.register.Register.TheVariants.{DpidrRead, AbortWrite, CtrlStatRead}
pub use Rattle.swd_port.specs.declared.register.Register.TheVariants.{CtrlStatWrite, SelectWrite, ResendRead}
pub use Rattle.swd_port.specs.declared.register.Register.TheVariants.{RdbuffRead, DpOtherRead, DpIgnoredWrite, CswRead}
pub use Rattle.swd_port.specs.declared.register.Register.TheVariants.{CswWrite, TarRead, TarWrite, DrwRead, DrwWrite}
pub use Rattle.swd_port.specs.declared.register.Register.TheVariants.{ApOtherRead, ApOtherWrite}
pub use Rattle.swd_port.specs.declared.state.Reset.{Reset}
pub use Rattle.swd_port.specs.declared.state.Reset.TheVariants.{Unreset, Fresh, Live}
pub use Rattle.swd_port.specs.declared.state.PowerUp.{PowerUp}
pub use Rattle.swd_port.specs.declared.state.PowerUp.TheVariants.{Unseen, Late, Seen}
pub use Rattle.swd_port.specs.declared.state.Drw.{Drw}
pub use Rattle.swd_port.specs.declared.state.Drw.TheVariants.{Reads, Writes}
pub use Rattle.swd_port.specs.declared.state.AfterAck.{AfterAck}
pub use Rattle.swd_port.specs.declared.state.AfterAck.TheVariants.{Idle, Drives, Awaits}
use Rattle.std.specs.Prelude.{ℕ, ◌==◌, ◌&&◌, Bool, true, false, Option, if◌then◌else◌}
use Rattle.swd_bits.specs.declared.request.Request.{Request}
use Rattle.swd_bits.specs.declared.request.Reg4.{Reg4}
use Rattle.swd_bits.specs.declared.request.Reg4.TheVariants.{R0, R4, R8, RC}
use Rattle.swd_port.specs.declared.wire.Due.{Due}
use Rattle.swd_port.specs.declared.wire.Due.TheVariants.{Nothing}
use Rattle.swd_port.specs.declared.select.Select.{Select}
use Rattle.swd_port.specs.Bus.{Bus}

-- the debug port's registers by direction, address and whether DPBANKSEL is 0, on which address 4 alone depends
abbrev pub port_dp_register : Bool → Reg4 → Bool → Register
port_dp_register true R0 bank0 = DpidrRead
port_dp_register false R0 bank0 = AbortWrite
port_dp_register true R4 bank0 = if bank0 then CtrlStatRead else DpOtherRead
port_dp_register false R4 bank0 = if bank0 then CtrlStatWrite else DpIgnoredWrite
port_dp_register true R8 bank0 = ResendRead
port_dp_register false R8 bank0 = SelectWrite
port_dp_register true RC bank0 = RdbuffRead
port_dp_register false RC bank0 = DpIgnoredWrite

-- the registers of AP 0 in AP bank 0, by direction and address
abbrev pub mem_ap_register : Bool → Reg4 → Register
mem_ap_register true R0 = CswRead
mem_ap_register false R0 = CswWrite
mem_ap_register true R4 = TarRead
mem_ap_register false R4 = TarWrite
mem_ap_register true R8 = ApOtherRead
mem_ap_register false R8 = ApOtherWrite
mem_ap_register true RC = DrwRead
mem_ap_register false RC = DrwWrite

-- the registers of any other AP or AP bank, by direction
abbrev pub port_other_ap_register : Bool → Register
port_other_ap_register true = ApOtherRead
port_other_ap_register false = ApOtherWrite

-- SELECT names AP 0 and AP bank 0
abbrev pub port_selects_mem_ap : Select → Bool
port_selects_mem_ap s = (s.apsel == 0) && (s.apbanksel == 0)

-- the register at an address of an access port or of the debug port, by direction, where SELECT names AP 0 and AP
-- bank 0 or doesn't, and DPBANKSEL is 0 or isn't
abbrev pub port_register_where : Bool → Bool → Bool → Bool → Reg4 → Register
port_register_where mem_ap bank0 ap read addr =
    if ap then (if mem_ap then mem_ap_register read addr else port_other_ap_register read)
    else port_dp_register read addr bank0

-- the register that a request names
abbrev pub port_register : Select → Request → Register
port_register s q = port_register_where (port_selects_mem_ap s) (s.dpbanksel == 0) q.ap q.read q.addr

-- the request for each register, under a SELECT that reaches it
abbrev pub port_request_for : Register → Request
port_request_for DpidrRead = record { ap = false; read = true; addr = R0 }
port_request_for AbortWrite = record { ap = false; read = false; addr = R0 }
port_request_for CtrlStatRead = record { ap = false; read = true; addr = R4 }
port_request_for CtrlStatWrite = record { ap = false; read = false; addr = R4 }
port_request_for ResendRead = record { ap = false; read = true; addr = R8 }
port_request_for SelectWrite = record { ap = false; read = false; addr = R8 }
port_request_for RdbuffRead = record { ap = false; read = true; addr = RC }
port_request_for DpOtherRead = record { ap = false; read = true; addr = R4 }
port_request_for DpIgnoredWrite = record { ap = false; read = false; addr = RC }
port_request_for CswRead = record { ap = true; read = true; addr = R0 }
port_request_for CswWrite = record { ap = true; read = false; addr = R0 }
port_request_for TarRead = record { ap = true; read = true; addr = R4 }
port_request_for TarWrite = record { ap = true; read = false; addr = R4 }
port_request_for ApOtherRead = record { ap = true; read = true; addr = R8 }
port_request_for ApOtherWrite = record { ap = true; read = false; addr = R8 }
port_request_for DrwRead = record { ap = true; read = true; addr = RC }
port_request_for DrwWrite = record { ap = true; read = false; addr = RC }

-- The link between the host and the target.
pub record PortLink : Type 0 where
  -- what is due next, as the host sees it
  pub due : Due
  -- what the target drives or awaits
  pub line : AfterAck

-- Nothing is due, and the target neither drives nor awaits.
abbrev pub port_idle_link : PortLink
port_idle_link = record { due = Nothing; line = Idle }

-- The state of the target. `None` in TAR, the read buffer or the last returned value: it is unknown, and any word may
-- replace it, anew at each use.
pub record Target : Type 0 where
  -- whether requests are answered
  pub reset : Reset
  -- CTRL/STAT: STICKYERR, WDATAERR, READOK, and the requests for debug and for system power
  pub sticky_error : Bool
  pub write_error : Bool
  pub read_ok : Bool
  pub debug_power : Bool
  pub system_power : Bool
  -- whether each of these powers is acknowledged
  pub debug_up : PowerUp
  pub system_up : PowerUp
  -- SELECT
  pub select : Select
  -- CSW: whether AddrInc is 01, single
  pub increments : Bool
  -- TAR
  pub tar : Option ℕ
  -- the read buffer: the result of the last AP read
  pub buffer : Option ℕ
  -- the value that the last AP read or RDBUFF read returned, for RESEND
  pub last_returned : Option ℕ
  -- the transfer that was accepted and hasn't taken effect yet
  pub pending : Option Drw
  -- the word that DPIDR returns; no call changes it
  pub identification : ℕ
  -- the bus behind the access port
  pub memory : Bus

-- Counts beside the state: the requests so far, and how many of them were disturbed and lost, by their marks.
pub record PortTally : Type 0 where
  pub asked : ℕ
  pub disturbed : ℕ
  pub lost : ℕ

-- The state of the model.
pub record Port : Type 0 where
  pub link : PortLink
  pub target : Target
  pub tally : PortTally
