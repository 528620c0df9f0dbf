-- Laws of data phases and turnarounds.
use Rattle.std.specs.Prelude.{ℕ, ◌≡◌, ◌≢◌, ◌<◌, ◌^◌, Option, None}
use Rattle.swd_bits.specs.Phases.{data_phase_number}
use Rattle.swd_bits.specs.Wire.{IsDataPhaseOf}
use Rattle.swd_port.specs.Choices.{port_flipped}
use Rattle.swd_port.specs.Port.{Port, Register, DrwWrite, Idle, Drives, Awaits}
use Rattle.swd_port.specs.Completion.{PortCompletes}
use Rattle.swd_port.specs.Moving.{PortTakes, PortGives, PortPasses}
use Rattle.swd_port.specs.Moves.{PortAround, PortPassed, PortPhaseGot, PortWriteGiven}

-- the bits taken are the value's phase, with one bit changed where the request was disturbed so
abbrev pub PortDataTaken : Type 0
PortDataTaken = (flip : Option ℕ) (value bits : ℕ) (s t : Port) →
    s.link.line ≡ Drives (port_flipped flip (data_phase_number value)) → value < 2 ^ 32 → bits < 2 ^ 33
    → PortTakes s bits t → PortPhaseGot flip value bits

-- taking it changes nothing, apart from a completion
abbrev pub PortTakeKeeps : Type 0
PortTakeKeeps = (bits : ℕ) (s t : Port) → PortTakes s bits t →
    (a : Port) × PortCompletes s a × PortPassed a t × (t.link.line ≡ Idle)

abbrev pub PortTakeKeepsAtRest : Type 0
PortTakeKeepsAtRest = (bits : ℕ) (s t : Port) → s.target.pending ≡ None → PortTakes s bits t →
    PortPassed s t × (t.link.line ≡ Idle)

-- a write is done with its word, or, if a bit was changed, not done, and WDATAERR is set
abbrev pub PortDataGiven : Type 0
PortDataGiven = (r : Register) (flip : Option ℕ) (word sent : ℕ) (s t : Port) → s.link.line ≡ Awaits r flip →
    word < 2 ^ 32 → sent < 2 ^ 33 → IsDataPhaseOf word sent → PortGives s sent t
    → PortAround (PortWriteGiven r flip word) s t

-- the same without a pending transfer: a completion can only occur after it
abbrev pub PortDataGivenAtRest : Type 0
PortDataGivenAtRest = (r : Register) (flip : Option ℕ) (word sent : ℕ) (s t : Port) → s.link.line ≡ Awaits r flip →
    word < 2 ^ 32 → sent < 2 ^ 33 → IsDataPhaseOf word sent → s.target.pending ≡ None → PortGives s sent t →
    (b : Port) × PortWriteGiven r flip word s b × PortCompletes b t

abbrev pub PortDataGivenExact : Type 0
PortDataGivenExact = (r : Register) (flip : Option ℕ) (word sent : ℕ) (s t : Port) → s.link.line ≡ Awaits r flip →
    word < 2 ^ 32 → sent < 2 ^ 33 → IsDataPhaseOf word sent → s.target.pending ≡ None → r ≢ DrwWrite
    → PortGives s sent t → PortWriteGiven r flip word s t

-- the turnaround after WAIT or FAULT changes nothing, apart from a completion
abbrev pub PortTurnaroundPassed : Type 0
PortTurnaroundPassed = (s t : Port) → PortPasses s t → (a : Port) × PortCompletes s a × PortPassed a t
    × (t.link.line ≡ a.link.line)

abbrev pub PortTurnaroundAtRest : Type 0
PortTurnaroundAtRest = (s t : Port) → s.target.pending ≡ None → PortPasses s t →
    PortPassed s t × (t.link.line ≡ s.link.line)
