-- Laws of data phases as numbers: they are the 33 bits in time order, the first least significant.
use Rattle.std.specs.Prelude.{ℕ, ◌≡◌, ◌<◌, ◌^◌, ◌↔◌, true, Some, None, replicate}
use Rattle.swd_bits.specs.Bits.{low_bits}
use Rattle.swd_bits.specs.Wire.{phase}
use Rattle.swd_bits.specs.Phases.{data_phase_number, data_phase_word}
use Rattle.swd_bits.specs.Wire.{IsNoDataPhase}
use Rattle.swd_port.specs.Choices.{port_flipped, port_undriven}
use Rattle.swd_port.specs.Phases.{port_flip_at}

-- what is sent for a word is its phase
abbrev pub PortPhaseSent : Type 0
PortPhaseSent = (word : ℕ) → word < 2 ^ 32 → low_bits 33 (data_phase_number word) ≡ phase word

-- no other 33 bits are the phase of this word
abbrev pub PortPhaseSentOnly : Type 0
PortPhaseSentOnly = (bits word : ℕ) → bits < 2 ^ 33 → word < 2 ^ 32 → low_bits 33 bits ≡ phase word →
    bits ≡ data_phase_number word

-- the word that is read from 33 bits is the one whose phase they are
abbrev pub PortPhaseRead : Type 0
PortPhaseRead = (bits word : ℕ) → bits < 2 ^ 33 → word < 2 ^ 32 →
    (data_phase_word bits ≡ Some word) ↔ (low_bits 33 bits ≡ phase word)

-- no word is read from bits that aren't a word's phase
abbrev pub PortNoPhaseRead : Type 0
PortNoPhaseRead = (bits : ℕ) → bits < 2 ^ 33 → IsNoDataPhase bits → data_phase_word bits ≡ None

-- an unchanged phase gives the word again
abbrev pub PortWholePhaseRead : Type 0
PortWholePhaseRead = (word : ℕ) → word < 2 ^ 32 → data_phase_word (data_phase_number word) ≡ Some word

-- changing a bit of the number changes that bit of the list
abbrev pub PortPhasePlaceChanged : Type 0
PortPhasePlaceChanged = (place bits : ℕ) → low_bits 33 (port_flipped (Some place) bits)
    ≡ port_flip_at place (low_bits 33 bits)

-- no word is read from a phase with one bit changed
abbrev pub PortDamagedPhaseRead : Type 0
PortDamagedPhaseRead = (word place : ℕ) → word < 2 ^ 32
    → data_phase_word (port_flipped (Some place) (data_phase_number word)) ≡ None

-- an undriven line reads as ones
abbrev pub PortUndrivenOnes : Type 0
PortUndrivenOnes = low_bits 33 port_undriven ≡ replicate 33 true

-- no word is read from an undriven line
abbrev pub PortUndrivenRead : Type 0
PortUndrivenRead = data_phase_word port_undriven ≡ None
