-- What follows an acknowledgement: a data phase of 33 bits with its turnaround, or a turnaround alone. These are the
-- calls `take`, `give` and `pass`.
-- Source: IHI 0031, B4, "Data transfer", "Successful read operation", "Successful write operation"; B2, on ABORT,
-- CTRL/STAT and SELECT; and MEM-AP, on CSW, TAR and DRW.
use Rattle.std.specs.Prelude.{ℕ, ◌≡◌, ◌||◌, ◌&&◌, ◌==◌, not, Bool, true, false, if◌then◌else◌, Option, Some, None}
use Rattle.swd_port.specs.declared.wire.Due.TheVariants.{Nothing}
use Rattle.swd_port.specs.declared.select.Select.{Select}
use Rattle.swd_port.specs.Registers.{register_bit, select_of, csw_of}
use Rattle.swd_bits.specs.Phases.{data_phase_word}
use Rattle.swd_port.specs.Choices.{port_flipped, port_undriven}
use Rattle.swd_port.specs.Port.{Port, Target, port_idle_link, Register, AbortWrite, CtrlStatWrite, SelectWrite}
use Rattle.swd_port.specs.Port.{CswWrite, TarWrite, DrwWrite, ApOtherWrite, PowerUp, Unseen, AfterAck, Drives, Awaits}
use Rattle.swd_port.specs.Port.{Drw, Writes}
use Rattle.swd_port.specs.Completion.{PortCompletes}

-- the 33 bits that the host gets; an undriven line reads 1 (this project's choice)
abbrev pub port_bits_driven : AfterAck → ℕ
port_bits_driven (Drives bits) = bits
port_bits_driven line = port_undriven

-- the state after the host took the 33 bits of a read: only the link changes
abbrev pub port_after_take : Port → Port
port_after_take s = record s { link = port_idle_link }

-- one call of `take`, without completion; `PortTakes` has completion before and after
pub record PortTakesNow (s : Port) (bits : ℕ) (t : Port) : Type 0 where
  pub gets : bits ≡ port_bits_driven s.link.line
  pub after : t ≡ port_after_take s

abbrev pub PortTakes : Port → ℕ → Port → Type 0
PortTakes s bits t = (a : Port) × (b : Port) × PortCompletes s a × PortTakesNow a bits b × PortCompletes b t

-- What the target reads from the 33 bits that reach it.
pub data PortArrival : Type 0 where
  -- it awaited no data
  Unawaited : PortArrival
  -- their parity is wrong
  Damaged : PortArrival
  -- they are the word of this write
  Arrives : (write : Register) (word : ℕ) → PortArrival

-- what arrives at a write, from the word if the parity is right
abbrev pub port_arrival_of : Register → Option ℕ → PortArrival
port_arrival_of r None = Damaged
port_arrival_of r (Some word) = Arrives r word

-- what arrives of 33 bits that were sent, with the awaited bit changed, if any (the change: this project's choice)
abbrev pub port_arrival : AfterAck → ℕ → PortArrival
port_arrival (Awaits r flip) sent = port_arrival_of r (data_phase_word (port_flipped flip sent))
port_arrival line sent = Unawaited

-- data arrived with wrong parity
abbrev pub port_arrival_is_damaged : PortArrival → Bool
port_arrival_is_damaged Damaged = true
port_arrival_is_damaged a = false

-- a write of any AP, after which the read buffer and the last returned value are unknown, whatever it wrote (this
-- project's choice)
abbrev pub is_ap_write_register : Register → Bool
is_ap_write_register CswWrite = true
is_ap_write_register TarWrite = true
is_ap_write_register DrwWrite = true
is_ap_write_register ApOtherWrite = true
is_ap_write_register r = false

-- a value that an AP write makes unknown, once its data arrived with right parity (this project's choice)
abbrev pub port_value_forgotten : PortArrival → Option ℕ → Option ℕ
port_value_forgotten (Arrives r word) value = if is_ap_write_register r then None else value
port_value_forgotten a value = value

-- ABORT's STKERRCLR, bit 2, clears STICKYERR. A write of an AP register elsewhere may be a bus error, which sets it
-- (which are: this project's choice).
abbrev pub stickyerr_after_write : Bool → PortArrival → Bool → Bool
stickyerr_after_write refuses (Arrives AbortWrite word) flag = flag && not (register_bit 2 word)
stickyerr_after_write refuses (Arrives ApOtherWrite word) flag = flag || refuses
stickyerr_after_write refuses a flag = flag

-- ABORT's WDERRCLR, bit 3, clears WDATAERR; corrupted data sets it, also that of ABORT (for ABORT: this project's
-- choice)
abbrev pub wdataerr_after_write : PortArrival → Bool → Bool
wdataerr_after_write (Arrives AbortWrite word) flag = flag && not (register_bit 3 word)
wdataerr_after_write a flag = port_arrival_is_damaged a || flag

-- CTRL/STAT stores its bits 28 and 30, the power requests (only these: this project's choice)
abbrev pub port_power_after_write : ℕ → PortArrival → Bool → Bool
port_power_after_write n (Arrives CtrlStatWrite word) power = register_bit n word
port_power_after_write n a power = power

-- power-up that was requested anew wasn't seen yet
abbrev pub port_power_up_after_write : PortArrival → PowerUp → PowerUp
port_power_up_after_write (Arrives CtrlStatWrite word) u = Unseen
port_power_up_after_write a u = u

-- SELECT stores its fields
abbrev pub port_select_after_write : PortArrival → Select → Select
port_select_after_write (Arrives SelectWrite word) select = select_of word
port_select_after_write a select = select

-- CSW stores whether AddrInc is 01 (only this: this project's choice)
abbrev pub port_csw_increments_after : PortArrival → Bool → Bool
port_csw_increments_after (Arrives CswWrite word) increments = (csw_of word).addr_inc == 1
port_csw_increments_after a increments = increments

-- TAR is stored as it is written
abbrev pub tar_after_write : PortArrival → Option ℕ → Option ℕ
tar_after_write (Arrives TarWrite word) tar = Some word
tar_after_write a tar = tar

-- a DRW write is pending once its data arrived
abbrev pub pending_after_write : PortArrival → Option Drw → Option Drw
pending_after_write (Arrives DrwWrite word) pending = Some (Writes word)
pending_after_write a pending = pending

-- The target after the 33 bits of a write: the write is done if their parity is right, else WDATAERR is set. A write of
-- an AP register elsewhere has no effect, or is a bus error if the target refuses it (this project's choice).
abbrev pub port_after_bits : Bool → PortArrival → Target → Target
port_after_bits refuses a x = record x {
  sticky_error = stickyerr_after_write refuses a x.sticky_error;
  write_error = wdataerr_after_write a x.write_error;
  debug_power = port_power_after_write 28 a x.debug_power;
  system_power = port_power_after_write 30 a x.system_power;
  debug_up = port_power_up_after_write a x.debug_up;
  system_up = port_power_up_after_write a x.system_up;
  select = port_select_after_write a x.select;
  increments = port_csw_increments_after a x.increments;
  tar = tar_after_write a x.tar;
  buffer = port_value_forgotten a x.buffer;
  last_returned = port_value_forgotten a x.last_returned;
  pending = pending_after_write a x.pending;
}

abbrev pub port_after_arrival : Bool → PortArrival → Port → Port
port_after_arrival refuses a s = record s { link = port_idle_link; target = port_after_bits refuses a s.target }

-- one call of `give`, without completion; `PortGives` has completion before and after
pub record PortGivesNow (s : Port) (sent : ℕ) (t : Port) : Type 0 where
  pub refuses : Bool
  pub after : t ≡ port_after_arrival refuses (port_arrival s.link.line sent) s

abbrev pub PortGives : Port → ℕ → Port → Type 0
PortGives s sent t = (a : Port) × (b : Port) × PortCompletes s a × PortGivesNow a sent b × PortCompletes b t

-- the state after the turnaround that follows WAIT or FAULT
abbrev pub port_after_pass : Port → Port
port_after_pass s = record s { link = record s.link { due = Nothing } }

-- one call of `pass`, without completion: the turnaround doesn't change the target; `PortPasses` has completion before
-- and after
pub record PortPassesNow (s t : Port) : Type 0 where
  pub after : t ≡ port_after_pass s

abbrev pub PortPasses : Port → Port → Type 0
PortPasses s t = (a : Port) × (b : Port) × PortCompletes s a × PortPassesNow a b × PortCompletes b t
