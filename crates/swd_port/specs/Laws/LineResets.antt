-- Laws of line resets and idle cycles.
use Rattle.std.specs.Prelude.{ℕ, ◌≡◌, ◌≢◌, None}
use Rattle.swd_port.specs.Bus.{Bus}
use Rattle.swd_port.specs.Port.{Port, Fresh}
use Rattle.swd_port.specs.Made.{port_made_target, port_made}
use Rattle.swd_port.specs.Completion.{PortCompletes}
use Rattle.swd_port.specs.Leading.{PortLeads}
use Rattle.swd_port.specs.Moves.{PortPassed, PortWasReset}

-- a line reset makes the target fresh, and after it nothing is due, whatever was due
abbrev pub PortLineReset : Type 0
PortLineReset = (ones : ℕ) (s t : Port) → ones ≢ 0 → PortLeads s ones t → (a : Port) × PortCompletes s a
    × PortWasReset a t

-- zeros alone change nothing, apart from a completion
abbrev pub PortIdleCycles : Type 0
PortIdleCycles = (s t : Port) → PortLeads s 0 t → (a : Port) × PortCompletes s a × PortPassed a t
    × (t.link.line ≡ a.link.line)

abbrev pub PortIdleCyclesAtRest : Type 0
PortIdleCyclesAtRest = (s t : Port) → s.target.pending ≡ None → PortLeads s 0 t → PortPassed s t
    × (t.link.line ≡ s.link.line)

-- the first line reset of a target as it was made
abbrev pub PortFirstLineReset : Type 0
PortFirstLineReset = (identification ones : ℕ) (m : Bus) (t : Port) → ones ≢ 0 →
    PortLeads (port_made identification m) ones t →
    t ≡ record (port_made identification m) { target = record (port_made_target identification m) { reset = Fresh } }
