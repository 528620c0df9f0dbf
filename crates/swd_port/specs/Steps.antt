-- A call of a wire: which may come, what may be seen by it, and the steps of the port model that it may be.
use Rattle.std.specs.Prelude.{ℕ, ◌≡◌, ◌<◌, ◌^◌, Bool, true, false}
use Rattle.swd_port.specs.declared.cue.Cue.{Cue}
use Rattle.swd_port.specs.declared.cue.Cue.TheVariants.{Lead, Ask as CueAsk, Take as CueTake, Give as CueGive}
use Rattle.swd_port.specs.declared.cue.Cue.TheVariants.{Pass as CuePass}
use Rattle.swd_port.specs.declared.wire.Due.{Due}
use Rattle.swd_port.specs.declared.wire.Due.TheVariants.{Nothing, Take, Give, Pass}
use Rattle.swd_port.specs.Port.{Port}
use Rattle.swd_port.specs.Answers.{port_due_after}
use Rattle.swd_port.specs.Asking.{PortAsks}
use Rattle.swd_port.specs.Moving.{PortTakes, PortGives, PortPasses}
use Rattle.swd_port.specs.Leading.{PortMayLead, MayRelease, PortLeads}

-- the cues that a host may perform next, by what is due
abbrev pub PortMayStep : Due → Cue → Type 0
PortMayStep due (Lead ones undriven switch zeros) = PortMayLead due ones switch zeros × MayRelease due ones undriven
PortMayStep due (CueAsk request) = due ≡ Nothing
PortMayStep due CueTake = due ≡ Take
PortMayStep due (CueGive bits) = (due ≡ Give) × (bits < 2 ^ 33)
PortMayStep due CuePass = due ≡ Pass

-- what may be seen: three bits after a request, 33 bits of a read's data phase, else 0
abbrev pub IsPortSeen : Cue → ℕ → Type 0
IsPortSeen (CueAsk request) seen = seen < 8
IsPortSeen CueTake seen = seen < 2 ^ 33
IsPortSeen cue seen = seen ≡ 0

-- what is due after a call
abbrev pub port_due_once : Cue → ℕ → Due
port_due_once (CueAsk request) seen = port_due_after request.read seen
port_due_once cue seen = Nothing

-- the kinds of cues, by what is seen: three bits, 33 bits, or nothing
abbrev pub is_port_ask : Cue → Bool
is_port_ask (CueAsk request) = true
is_port_ask cue = false

-- what the host did and saw is a step of the port model
abbrev pub IsPortStep : Cue → ℕ → Port → Port → Type 0
IsPortStep (Lead ones undriven switch zeros) seen s t = PortLeads s ones t
IsPortStep (CueAsk request) seen s t = PortAsks s request seen t
IsPortStep CueTake seen s t = PortTakes s seen t
IsPortStep (CueGive bits) seen s t = PortGives s bits t
IsPortStep CuePass seen s t = PortPasses s t
