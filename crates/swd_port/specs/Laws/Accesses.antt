-- Laws of whole accesses: the write and the read of a word, request by request.
use Rattle.std.specs.Prelude.{ℕ, ◌≡◌, ◌<◌, ◌^◌, true, false}
use Rattle.swd_port.specs.declared.access.Access.TheVariants.{Read, Write}
use Rattle.swd_port.specs.declared.access.Answer.TheVariants.{Value}
use Rattle.swd_port.specs.Registers.{port_select_zero}
use Rattle.swd_bits.specs.Wire.{IsDataPhaseOf}
use Rattle.swd_port.specs.Bus.{Bus, bus_word_at, bus_answer, bus_after}
use Rattle.swd_port.specs.Port.{Port, Target, Live, RdbuffRead, DrwRead, DrwWrite, port_request_for}
use Rattle.swd_port.specs.Asking.{PortAsks, port_has_power}
use Rattle.swd_port.specs.Moving.{PortTakes, PortGives}
use Rattle.swd_port.specs.Transfers.{PortAimed, PortSucceeded}

-- a target that is ready for transfers: live and powered, SELECT is 0, AddrInc is single, and WDATAERR is clear
pub record PortReady (x : Target) : Type 0 where
  pub live : x.reset ≡ Live
  pub power : port_has_power x ≡ true
  pub select : x.select ≡ port_select_zero
  pub increments : x.increments ≡ true
  pub write_error : x.write_error ≡ false

-- the request wasn't disturbed
abbrev pub PortUndisturbed : Port → Port → Type 0
PortUndisturbed s t = t.tally.disturbed ≡ s.tally.disturbed

-- the requests of a word's write, each answered OK, with DRW's undisturbed: the write was done once
abbrev pub PortWordWritten : Type 0
PortWordWritten = (at word sent bits : ℕ) (m : Bus) (s asked given confirmed t : Port) → PortReady s.target →
    PortAimed at m s.target → word < 2 ^ 32 → sent < 2 ^ 33 → IsDataPhaseOf word sent
    → PortAsks s (port_request_for DrwWrite) 1 asked → PortUndisturbed s asked → PortGives asked sent given
    → PortAsks given (port_request_for RdbuffRead) 1 confirmed →
    PortTakes confirmed bits t → PortSucceeded (Write at word) m t.target

-- The requests of a word's read, each answered OK, with the confirming one undisturbed: the read was done once, and
-- RDBUFF returns its word.
abbrev pub PortWordRead : Type 0
PortWordRead = (at first_bits bits : ℕ) (m : Bus) (s asked taken confirmed t : Port) → PortReady s.target →
    PortAimed at m s.target → bits < 2 ^ 33 → PortAsks s (port_request_for DrwRead) 1 asked
    → PortTakes asked first_bits taken → PortAsks taken (port_request_for RdbuffRead) 1 confirmed
    → PortUndisturbed taken confirmed → PortTakes confirmed bits t →
    IsDataPhaseOf (bus_word_at at m) bits × (bus_answer (Read at) m ≡ Value (bus_word_at at m)) ×
    (t.target.memory ≡ bus_after (Read at) m)
