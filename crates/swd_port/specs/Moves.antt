-- What a data phase, a turnaround, ones and zeros, and a completion change: the vocabulary of the laws. All of it
-- follows from the definitions of the steps, which name the source of each rule.
use Rattle.std.specs.Prelude.{ℕ, ◌≡◌, ◌⊎◌, ◌||◌, Bool, true, Option, Some, None}
use Rattle.swd_port.specs.declared.wire.Due.TheVariants.{Nothing}
use Rattle.swd_bits.specs.Phases.{data_phase_word}
use Rattle.swd_bits.specs.Wire.{IsDataPhaseOf, IsNoDataPhase}
use Rattle.swd_port.specs.Port.{Port, Target, port_idle_link, Register, Fresh}
use Rattle.swd_port.specs.Completion.{PortCompletes}
use Rattle.swd_port.specs.Moving.{Arrives, port_after_bits}
use Rattle.swd_port.specs.Leading.{port_line_awaits}

-- a step, with a possible completion before it and one after it
abbrev pub PortAround : (Port → Port → Type 0) → Port → Port → Type 0
PortAround Step s t = (a : Port) × (b : Port) × PortCompletes s a × Step a b × PortCompletes b t

-- what a completion keeps: all except STICKYERR, TAR, the read buffer, the pending transfer and the bus
pub record PortKept (s t : Port) : Type 0 where
  pub link : t.link ≡ s.link
  pub tally : t.tally ≡ s.tally
  pub reset : t.target.reset ≡ s.target.reset
  pub write_error : t.target.write_error ≡ s.target.write_error
  pub read_ok : t.target.read_ok ≡ s.target.read_ok
  pub debug_power : t.target.debug_power ≡ s.target.debug_power
  pub system_power : t.target.system_power ≡ s.target.system_power
  pub debug_up : t.target.debug_up ≡ s.target.debug_up
  pub system_up : t.target.system_up ≡ s.target.system_up
  pub select : t.target.select ≡ s.target.select
  pub increments : t.target.increments ≡ s.target.increments
  pub last_returned : t.target.last_returned ≡ s.target.last_returned
  pub identification : t.target.identification ≡ s.target.identification
  -- a set STICKYERR stays set, and the pending transfer is still pending or done
  pub sticky_error : s.target.sticky_error ≡ true → t.target.sticky_error ≡ true
  pub pending : (t.target.pending ≡ s.target.pending) ⊎ (t.target.pending ≡ None)

-- nothing is due, and the target and the counts are unchanged
pub record PortPassed (s t : Port) : Type 0 where
  pub due : t.link.due ≡ Nothing
  pub target : t.target ≡ s.target
  pub tally : t.tally ≡ s.tally

-- the 33 bits that the host gets of a value: its phase, or no word's phase where a bit is changed
pub data PortPhaseGot (flip : Option ℕ) (value bits : ℕ) : Type 0 where
  whole : flip ≡ None → IsDataPhaseOf value bits → data_phase_word bits ≡ Some value → PortPhaseGot flip value bits
  damaged : (place : ℕ) → flip ≡ Some place → IsNoDataPhase bits → data_phase_word bits ≡ None
      → PortPhaseGot flip value bits

-- a write was done with its word, or is a bus error where it is one of an AP register elsewhere
pub record PortWritten (r : Register) (word : ℕ) (s t : Port) : Type 0 where
  pub link : t.link ≡ port_idle_link
  pub refuses : Bool
  pub target : t.target ≡ port_after_bits refuses (Arrives r word) s.target
  pub tally : t.tally ≡ s.tally

-- a write whose data was corrupted: it isn't done, and WDATAERR is set
pub record PortWriteSpoiled (s t : Port) : Type 0 where
  pub link : t.link ≡ port_idle_link
  pub target : t.target ≡ record s.target { write_error = true }
  pub tally : t.tally ≡ s.tally

-- what the target does with the 33 bits of a word, by the bit that was changed
pub data PortWriteGiven (r : Register) (flip : Option ℕ) (word : ℕ) (s t : Port) : Type 0 where
  whole : flip ≡ None → PortWritten r word s t → PortWriteGiven r flip word s t
  damaged : (place : ℕ) → flip ≡ Some place → PortWriteSpoiled s t → PortWriteGiven r flip word s t

-- the target after a line reset: fresh, with WDATAERR set where write data was awaited
abbrev pub port_reset_target : Port → Target
port_reset_target s = record s.target {
  reset = Fresh;
  write_error = port_line_awaits s.link.line || s.target.write_error;
}

-- a line reset: nothing is due, and except for that every register, the pending transfer and the bus are unchanged
pub record PortWasReset (s t : Port) : Type 0 where
  pub link : t.link ≡ port_idle_link
  pub target : t.target ≡ port_reset_target s
  pub tally : t.tally ≡ s.tally
