-- A write that a simulated target gives up before a request that can't wait for it.
use Rattle.std.specs.Prelude.{◌+◌, ◌&&◌, not, Bool, true, false, None, if◌then◌else◌}
use Rattle.swd_bits.specs.declared.request.Request.{Request}
use Rattle.swd_port.specs.declared.mark.Mark.{Mark}
use Rattle.swd_port.specs.declared.register.Register.{Register}
use Rattle.swd_port.specs.Port.{Target as State, PortTally, port_register}
use Rattle.swd_port.specs.Choices.{is_port_deaf}
use Rattle.swd_port.specs.Answers.{is_exempt_register, port_is_answered}
use Rattle.swd_port.specs.Asking.{is_pending_write}
use Rattle.swd_target.specs.Simulations.{Simulation}

-- a write is pending, and the register is one that can't wait for it and is answered
abbrev pub is_giving_up_at : Register → State → Bool
is_giving_up_at r s = is_pending_write s.pending && (is_exempt_register r && port_is_answered s.reset r)

-- the target sees the request, too
abbrev pub is_giving_up : Mark → Request → State → Bool
is_giving_up mark q s = not (is_port_deaf mark) && is_giving_up_at (port_register s.select q) s

-- the pending write is given up: it reaches no bus, TAR stays, and WDATAERR is set
abbrev pub state_without_write : State → State
state_without_write s = record s { write_error = true; pending = None }

-- a simulated target before a request, once a write was given up for it
abbrev pub simulation_giving : Mark → Request → Simulation → Simulation
simulation_giving mark q s =
    if is_giving_up mark q s.state then record s { state = state_without_write s.state } else s

-- a write that is given up is counted
abbrev pub tally_given : Bool → PortTally → PortTally
tally_given true t = record t { disturbed = t.disturbed + 1 }
tally_given false t = t
