-- What a simulated target with a plan does and shows at a cue. `mark` is the mark of its next request.
use Rattle.std.specs.Prelude.{ℕ, ◌==◌, if◌then◌else◌}
use Rattle.swd_port.specs.declared.cue.Cue.{Cue}
use Rattle.swd_port.specs.declared.cue.Cue.TheVariants.{Lead, Ask, Take, Give, Pass}
use Rattle.swd_port.specs.declared.mark.Mark.{Mark}
use Rattle.swd_port.specs.declared.state.AfterAck.TheVariants.{Idle}
use Rattle.swd_port.specs.declared.wire.Due.TheVariants.{Nothing}
use Rattle.swd_port.specs.Port.{Port, PortLink, PortTally, port_idle_link}
use Rattle.swd_port.specs.Asking.{port_tally_after}
use Rattle.swd_port.specs.Leading.{PortLeadsNow, port_after_lead}
use Rattle.swd_port.specs.Moving.{PortTakesNow, PortPassesNow, port_arrival, port_bits_driven}
use Rattle.swd_target.specs.Simulations.{Simulation, simulation_stepped, simulation_asked, simulation_seen}
use Rattle.swd_target.specs.Simulations.{simulation_reply, simulation_phase, simulation_link_after, simulation_arrived}
use Rattle.swd_target.specs.Requests.{target_port_at}

-- the simulated target after a line reset; without ones it is unchanged
abbrev pub simulation_led : ℕ → PortLink → Simulation → Simulation
simulation_led ones l s = simulation_stepped
    (λ c t. (port_after_lead ones (target_port_at l (record { asked = 0; disturbed = 0; lost = 0 }) t)).target) s

-- the simulated target after the 33 bits of a write
abbrev pub simulation_given : ℕ → PortLink → Simulation → Simulation
simulation_given sent l s = simulation_arrived (port_arrival l.line sent) s

-- what is seen
abbrev pub simulation_seen_at_cue : Mark → Cue → PortLink → Simulation → ℕ
simulation_seen_at_cue mark (Ask q) l s = simulation_seen mark q s
simulation_seen_at_cue mark Take l s = port_bits_driven l.line
simulation_seen_at_cue mark cue l s = 0

-- the simulated target after a cue
abbrev pub simulation_after_cue : Mark → Cue → PortLink → Simulation → Simulation
simulation_after_cue mark (Lead ones undriven switch zeros) l s = simulation_led ones l s
simulation_after_cue mark (Ask q) l s = simulation_asked mark q s
simulation_after_cue mark (Give sent) l s = simulation_given sent l s
simulation_after_cue mark Take l s = s
simulation_after_cue mark Pass l s = s

-- what is due after a cue, and the data phase that the target is in
abbrev pub simulation_link_at_cue : Mark → Cue → PortLink → Simulation → PortLink
simulation_link_at_cue mark (Lead ones undriven switch zeros) l s =
    record { due = Nothing; line = if ones == 0 then l.line else Idle }
simulation_link_at_cue mark (Ask q) l s = simulation_link_after mark q (simulation_reply mark q s)
    (simulation_phase mark q s) l
simulation_link_at_cue mark Pass l s = record l { due = Nothing }
simulation_link_at_cue mark Take l s = port_idle_link
simulation_link_at_cue mark (Give sent) l s = port_idle_link

-- the counts of requests after a cue
abbrev pub simulation_tally_at_cue : Mark → Cue → PortTally → PortTally
simulation_tally_at_cue mark (Ask q) n = port_tally_after mark n
simulation_tally_at_cue mark cue n = n

-- no pending transfer takes effect at ones and zeros, at the data phase of a read or at a turnaround
abbrev pub TargetStepsAlone : Cue → ℕ → Port → Port → Type 0
TargetStepsAlone (Lead ones undriven switch zeros) seen s t = PortLeadsNow s ones t
TargetStepsAlone Take seen s t = PortTakesNow s seen t
TargetStepsAlone Pass seen s t = PortPassesNow s t
TargetStepsAlone cue seen s t = Unit {0}
