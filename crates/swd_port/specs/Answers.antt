-- How a target answers a request, and what the host sees of the answer.
-- Source: IHI 0031, B4, "Acknowledge response", "WAIT response to read or write operation request", "FAULT response
-- to read or write operation request", "Protocol error response", "Connection and line reset sequence"; and B1,
-- "Sticky flags and DP error responses".
pub use Rattle.swd_port.specs.declared.state.Reply.{Reply}
pub use Rattle.swd_port.specs.declared.state.Reply.TheVariants.{Okay, Waits, Faults, Silent}
use Rattle.std.specs.Prelude.{ℕ, ◌≡◌, ◌==◌, ◌^◌, ◌||◌, ◌&&◌, not, Bool, true, false, if◌then◌else◌, bit_xor}
use Rattle.swd_bits.specs.Bits.{bits_number}
use Rattle.swd_bits.specs.Acks.{bits_of_ack}
use Rattle.swd_bits.specs.declared.ack.Ack.TheVariants.{Ok as AckOk, Wait as AckWait, Fault as AckFault}
use Rattle.swd_port.specs.declared.wire.Due.{Due}
use Rattle.swd_port.specs.declared.wire.Due.TheVariants.{Take, Give, Pass, Lost}
use Rattle.swd_port.specs.Port.{PowerUp, Late, Register, DpidrRead, AbortWrite, CtrlStatRead, Reset, Unreset, Fresh}
use Rattle.swd_port.specs.Port.{Live}
use Rattle.swd_port.specs.Choices.{Mark, Deaf, Mute, is_port_wait, is_port_deaf}

-- never WAIT or FAULT: DPIDR read, CTRL/STAT read, ABORT write
abbrev pub is_exempt_register : Register → Bool
is_exempt_register DpidrRead = true
is_exempt_register CtrlStatRead = true
is_exempt_register AbortWrite = true
is_exempt_register _ = false

-- the read that has to be the first after a line reset
abbrev pub is_dpidr_register : Register → Bool
is_dpidr_register DpidrRead = true
is_dpidr_register _ = false

-- before any line reset no request is answered, and after one only a DPIDR read, until DPIDR was read (the silence:
-- this project's choice)
abbrev pub port_is_answered : Reset → Register → Bool
port_is_answered Unreset r = false
port_is_answered Fresh r = is_dpidr_register r
port_is_answered Live r = true

-- the requested power is acknowledged
abbrev pub is_port_power_there : PowerUp → Bool
is_port_power_there Late = false
is_port_power_there u = true

-- an access of any AP without debug power (FAULT for it: this project's choice)
abbrev pub is_port_unpowered : Bool → Bool → Bool
is_port_unpowered ap powered = ap && not powered

-- the answer where no WAIT is asked for: FAULT while STICKYERR or WDATAERR is set, and for an unpowered AP access
abbrev pub port_answer_by : Reset → Bool → Bool → Bool → Register → Reply
port_answer_by reset sticky_error write_error unpowered r =
    if not (port_is_answered reset r) then Silent else if is_exempt_register r then Okay
    else if sticky_error || write_error || unpowered then Faults
    else Okay

-- the reply is OK
abbrev pub is_port_okay : Reply → Bool
is_port_okay Okay = true
is_port_okay _ = false

-- WAIT may replace OK to a request that isn't exempt; FAULT takes precedence over WAIT (the order: this project's
-- choice)
abbrev pub port_may_wait : Register → Reply → Bool
port_may_wait r a = is_port_okay a && not (is_exempt_register r)

-- the reply under a mark: WAIT only at a Wait mark, and there wherever allowed; none to a request that the target
-- doesn't see (this project's choice)
abbrev pub port_reply_under : Mark → Register → Reply → Reply
port_reply_under mark r a =
    if is_port_deaf mark then Silent else if is_port_wait mark && port_may_wait r a then Waits
    else a

-- the three bits that the target drives, as a number; an undriven line reads 1 (this project's choice)
abbrev pub port_ack_driven : Reply → ℕ
port_ack_driven Okay = bits_number (bits_of_ack AckOk)
port_ack_driven Waits = bits_number (bits_of_ack AckWait)
port_ack_driven Faults = bits_number (bits_of_ack AckFault)
port_ack_driven Silent = 7

-- the three bits that the host sees, as a number: Mute changes one bit of a driven acknowledgement (this project's
-- choice)
abbrev pub port_seen_at : Mark → Reply → ℕ
port_seen_at mark Silent = port_ack_driven Silent
port_seen_at (Mute place) reply = bit_xor (port_ack_driven reply) (2 ^ place)
port_seen_at mark reply = port_ack_driven reply

-- the number is not OK, WAIT or FAULT
pub record IsPortNoAck (seen : ℕ) : Type 0 where
  pub not_okay : (seen == 1) ≡ false
  pub not_wait : (seen == 2) ≡ false
  pub not_fault : (seen == 4) ≡ false

-- The numbers that the host may see. After a lost request it may see any that is no acknowledgement, since a failing
-- line may read as anything. After other requests it sees what is driven (this project's choice).
abbrev pub PortSees : Mark → Reply → ℕ → Type 0
PortSees Deaf reply seen = IsPortNoAck seen
PortSees (Mute place) reply seen = IsPortNoAck seen
PortSees mark reply seen = seen ≡ port_ack_driven reply

-- what is due after an acknowledgement was seen
abbrev pub port_due_after : Bool → ℕ → Due
port_due_after read seen =
    if seen == 1 then (if read then Take else Give)
    else if (seen == 2) || (seen == 4) then Pass
    else Lost
