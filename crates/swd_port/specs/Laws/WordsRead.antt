-- Laws of the words that are read, and of returned values.
use Rattle.std.specs.Prelude.{ℕ, ◌≡◌, ◌<◌, ◌^◌, ◌&&◌, ◌⊎◌, Bool, true, false, Option, Some}
use Rattle.swd_port.specs.Registers.{register_bit, ctrl_stat_read, ctrl_stat_holds}
use Rattle.swd_bits.specs.Phases.{data_phase_number}
use Rattle.swd_port.specs.Choices.{port_flipped}
use Rattle.swd_port.specs.Port.{Port, Target, Register, DpidrRead, AbortWrite, CtrlStatRead, ResendRead, Drives}
use Rattle.swd_port.specs.Choices.{Choice}
use Rattle.swd_port.specs.Answers.{is_exempt_register, is_port_power_there}
use Rattle.swd_port.specs.Asking.{is_port_posted, ctrl_stat_word_in, power_up_after}
use Rattle.swd_port.specs.Moves.{PortPassed, PortWritten, PortWasReset}
use Rattle.swd_port.specs.Outcomes.{PortIgnores, PortDefers, PortAccepts, PortRefuses}
use Rattle.swd_port.specs.Transfers.{PortCarries}

-- STICKYERR, READOK, WDATAERR and the two power acknowledgements are read back, whatever the others are
pub record CtrlStatReads (sticky_error read_ok write_error debug_power debug_there system_power system_there : Bool)
    (word : ℕ) : Type 0 where
  pub sticky_held : ctrl_stat_holds 0x20 word ≡ sticky_error
  pub ok_held : ctrl_stat_holds 0x40 word ≡ read_ok
  pub write_held : ctrl_stat_holds 0x80 word ≡ write_error
  pub debug_held : ctrl_stat_holds 0x2000_0000 word ≡ (debug_power && debug_there)
  pub system_held : ctrl_stat_holds 0x8000_0000 word ≡ (system_power && system_there)
  pub sticky_bit : register_bit 5 word ≡ sticky_error
  pub ok_bit : register_bit 6 word ≡ read_ok
  pub write_bit : register_bit 7 word ≡ write_error
  pub debug_bit : register_bit 29 word ≡ (debug_power && debug_there)
  pub system_bit : register_bit 31 word ≡ (system_power && system_there)
  pub range : word < 2 ^ 32

abbrev pub CtrlStatWordReads : Type 0
CtrlStatWordReads = (others : ℕ) (sticky_error read_ok write_error debug_power debug_there : Bool)
    (system_power system_there : Bool) →
    CtrlStatReads sticky_error read_ok write_error debug_power debug_there system_power system_there
    (ctrl_stat_read others sticky_error read_ok write_error debug_power debug_there system_power system_there)

-- the phase of a value is on the line, and the value has 32 bits
pub record PortOnLine (value : ℕ) (flip : Option ℕ) (t : Port) : Type 0 where
  pub line : t.link.line ≡ Drives (port_flipped flip (data_phase_number value))
  pub range : value < 2 ^ 32

-- DPIDR returns the identification
abbrev pub PortIdentificationReturned : Type 0
PortIdentificationReturned = (flip : Option ℕ) (s t : Port) → PortAccepts DpidrRead true flip s t →
    PortOnLine s.target.identification flip t

-- the word of CTRL/STAT in a state has its flags, and each power that is requested and acknowledged
abbrev pub CtrlStatShows : Choice → Target → Type 0
CtrlStatShows c x = CtrlStatReads x.sticky_error x.read_ok x.write_error
    x.debug_power (is_port_power_there (power_up_after c.debug_late CtrlStatRead x.debug_up))
    x.system_power (is_port_power_there (power_up_after c.system_late CtrlStatRead x.system_up)) (ctrl_stat_word_in c x)

-- CTRL/STAT returns the flags and the power acknowledgements as they were when it was answered
abbrev pub CtrlStatReturned : Type 0
CtrlStatReturned = (flip : Option ℕ) (s t : Port) → (h : PortAccepts CtrlStatRead true flip s t) →
    PortOnLine (ctrl_stat_word_in h.choice s.target) flip t × CtrlStatShows h.choice s.target

-- RDBUFF, and every AP read, returns the read buffer, whose value becomes the last returned one
abbrev pub PortBufferReturned : Type 0
PortBufferReturned = (r : Register) (flip : Option ℕ) (value : ℕ) (s t : Port) → is_port_posted r ≡ true →
    s.target.buffer ≡ Some value → PortAccepts r true flip s t →
    PortOnLine value flip t × (t.target.last_returned ≡ Some value)

-- RESEND returns the last returned value and keeps it, so that it may be repeated
abbrev pub PortValueResent : Type 0
PortValueResent = (flip : Option ℕ) (value : ℕ) (s t : Port) → s.target.last_returned ≡ Some value →
    PortAccepts ResendRead true flip s t → PortOnLine value flip t × (t.target.last_returned ≡ Some value)

-- an exempt request, and RESEND, change neither a sent transfer nor the last returned value
abbrev pub PortCarriedByRequest : Type 0
PortCarriedByRequest = (r : Register) (read : Bool) (flip : Option ℕ) (s t : Port) →
    (is_exempt_register r ≡ true) ⊎ (r ≡ ResendRead) → PortAccepts r read flip s t →
    PortCarries s.target t.target × (t.target.last_returned ≡ s.target.last_returned)

-- a request that had no effect, and one that got WAIT, don't change a sent transfer
abbrev pub PortCarriedWhereHeld : Type 0
PortCarriedWhereHeld = (r : Register) (s t : Port) → PortIgnores s t ⊎ PortDefers r s t → PortCarries s.target t.target

-- nor does one that got FAULT, where STICKYERR is unchanged
abbrev pub PortCarriedWhereRefused : Type 0
PortCarriedWhereRefused = (r : Register) (ap : Bool) (s t : Port) → PortRefuses r ap s t →
    t.target.sticky_error ≡ s.target.sticky_error → PortCarries s.target t.target

-- nor does a data phase that is taken, or a turnaround
abbrev pub PortCarriedWherePassed : Type 0
PortCarriedWherePassed = (s t : Port) → PortPassed s t → PortCarries s.target t.target

-- nor does a line reset
abbrev pub PortCarriedByReset : Type 0
PortCarriedByReset = (s t : Port) → PortWasReset s t → PortCarries s.target t.target

-- ABORT's bits 2 and 3 clear STICKYERR and WDATAERR; it doesn't change the last returned value, the read buffer, TAR,
-- the bus or the pending transfer
pub record PortAbortClears (word : ℕ) (x y : Target) : Type 0 where
  pub sticky_cleared : register_bit 2 word ≡ true → y.sticky_error ≡ false
  pub sticky_kept : register_bit 2 word ≡ false → y.sticky_error ≡ x.sticky_error
  pub write_cleared : register_bit 3 word ≡ true → y.write_error ≡ false
  pub write_kept : register_bit 3 word ≡ false → y.write_error ≡ x.write_error
  pub last_returned : y.last_returned ≡ x.last_returned
  pub buffer : y.buffer ≡ x.buffer
  pub tar : y.tar ≡ x.tar
  pub memory : y.memory ≡ x.memory
  pub pending : y.pending ≡ x.pending

abbrev pub PortAbortClearsFlags : Type 0
PortAbortClearsFlags = (word : ℕ) (s t : Port) → PortWritten AbortWrite word s t
    → PortAbortClears word s.target t.target
