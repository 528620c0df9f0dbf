-- The progress of the opening or an access: the requests that it may still send, and those that it sent.
use Rattle.std.specs.Prelude.{ℕ, ◌+◌, ◌-◌, ◌*◌, Bool, true, false, not, if◌then◌else◌}
use Rattle.swd_bits.specs.Bits.{bit}
use Rattle.swd_host.specs.declared.outcome.End.TheVariants.{Lost}
use Rattle.swd_host.specs.declared.outcome.Outcome.TheVariants.{Opened, Answered, Stopped}
use Rattle.swd_host.specs.declared.request.HostStep.{HostStep}
use Rattle.swd_host.specs.declared.request.HostStep.TheVariants.{Identify, WriteAbort, CheckCtrlStat, Select, Power}
use Rattle.swd_host.specs.declared.request.HostStep.TheVariants.{Powered, Configure, ReadCsw, Configured, WriteTar}
use Rattle.swd_host.specs.declared.request.HostStep.TheVariants.{Transfer, Confirm, Behind}
use Rattle.swd_host.specs.declared.request.Job.{Job}
use Rattle.swd_host.specs.declared.request.Job.TheVariants.{At, Resend, Status, LastStatus, Clear, Check}
use Rattle.swd_host.specs.declared.engine.Phase.TheVariants.{Ask}
use Rattle.swd_host.specs.declared.engine.State.{State}
use Rattle.swd_host.specs.declared.engine.State.TheVariants.{Leading, Doing, Resting}
use Rattle.swd_host.specs.declared.engine.Engine.{Engine}
use Rattle.swd_host.specs.declared.task.Bursts.{Bursts}
use Rattle.swd_host.specs.Bursts.{event_requests}

-- REQUESTS STILL OPEN: the most before the next outcome, without an event
abbrev pub engine_left_at_place : HostStep → ℕ
engine_left_at_place Identify = 10
engine_left_at_place WriteAbort = 9
engine_left_at_place CheckCtrlStat = 8
engine_left_at_place Select = 7
engine_left_at_place Power = 6
engine_left_at_place Powered = 5
engine_left_at_place Configure = 4
engine_left_at_place ReadCsw = 3
engine_left_at_place Configured = 2
engine_left_at_place WriteTar = 6
engine_left_at_place Transfer = 5
engine_left_at_place Confirm = 4
engine_left_at_place Behind = 6

-- the same for RESEND. In a block, if the next access was a bus error, four more follow, and then RESEND again.
abbrev pub engine_left_at_resend : HostStep → ℕ
engine_left_at_resend Confirm = 6
engine_left_at_resend Behind = 2
engine_left_at_resend p = engine_left_at_place p

-- the same after a bus error is cleared: the access is answered, or RESEND follows, or the request is sent again
abbrev pub engine_left_when_cleared : HostStep → ℕ
engine_left_when_cleared Confirm = 0
engine_left_when_cleared Behind = 2
engine_left_when_cleared p = engine_left_at_place p

abbrev pub engine_left_for : Bursts → Job → ℕ
engine_left_for kind (At p) = engine_left_at_place p
engine_left_for kind (Resend p) = engine_left_at_resend p
engine_left_for kind (Status p) = engine_left_at_place p - 1
engine_left_for kind LastStatus = 1
engine_left_for kind (Clear p owed) =
    if owed.error then engine_left_when_cleared p + 2 else engine_left_at_place p + (event_requests kind - 2)
engine_left_for kind (Check p owed) =
    if owed.error then engine_left_when_cleared p + 1 else engine_left_at_place p + (event_requests kind - 3)

abbrev pub engine_left_in : Bursts → State → ℕ
engine_left_in kind Leading = 10
engine_left_in kind (Doing job Ask) = engine_left_for kind job
engine_left_in kind (Doing job phase) = engine_left_for kind job - 1
engine_left_in kind (Resting Opened) = 1
engine_left_in kind (Resting outcome) = 0

-- the flag of a transfer that was left pending may cost five more
abbrev pub engine_stray_left : Bool → ℕ
engine_stray_left stray = if stray then 5 else 0

-- the most requests of an engine before its next outcome, with those of the events that it may still meet
abbrev pub engine_open_requests : Engine → ℕ
engine_open_requests e =
    event_requests e.bursts * (e.tries - e.events) + engine_stray_left e.stray + engine_left_in e.bursts e.state

-- whether a data phase, a turnaround or the lead comes before the next request
abbrev pub engine_moves_first : State → ℕ
engine_moves_first Leading = 1
engine_moves_first (Doing job Ask) = 0
engine_moves_first (Doing job phase) = 1
engine_moves_first (Resting outcome) = 0

-- the most calls of the wire before the next outcome: at most one other call between two requests
abbrev pub engine_calls_left : Engine → ℕ
engine_calls_left e = 2 * engine_open_requests e + engine_moves_first e.state

-- REQUESTS SENT: the least for the opening or the current access, including its DRW where that confirmed the access
-- before. `aims`: TAR has to be written.
abbrev pub engine_least_at : Bool → HostStep → ℕ
engine_least_at aims Identify = 0
engine_least_at aims WriteAbort = 1
engine_least_at aims CheckCtrlStat = 2
engine_least_at aims Select = 3
engine_least_at aims Power = 4
engine_least_at aims Powered = 5
engine_least_at aims Configure = 6
engine_least_at aims ReadCsw = 7
engine_least_at aims Configured = 8
engine_least_at aims WriteTar = 0
engine_least_at aims Transfer = bit aims
engine_least_at aims Confirm = bit aims + 1
engine_least_at aims Behind = bit aims + 2

abbrev pub engine_least_for : Bool → Job → ℕ
engine_least_for aims (At p) = engine_least_at aims p
engine_least_for aims (Resend p) = engine_least_at aims p + 1
engine_least_for aims (Status p) = engine_least_at aims p + 1
engine_least_for aims LastStatus = 0
engine_least_for aims (Clear p owed) = engine_least_at aims p + 1
engine_least_for aims (Check p owed) = engine_least_at aims p + 1

abbrev pub engine_least_in : Bool → State → ℕ
engine_least_in aims Leading = 0
engine_least_in aims (Doing job Ask) = engine_least_for aims job
engine_least_in aims (Doing job phase) = engine_least_for aims job + 1
engine_least_in aims (Resting Opened) = 9
engine_least_in aims (Resting (Answered answer)) = bit aims + 2
engine_least_in aims (Resting (Stopped end)) = 0

-- THE OPENING (true) AND AN ACCESS (false)
abbrev pub is_opening_place : HostStep → Bool
is_opening_place WriteTar = false
is_opening_place Transfer = false
is_opening_place Confirm = false
is_opening_place Behind = false
is_opening_place p = true

abbrev pub engine_place_is_of : Bool → HostStep → Bool
engine_place_is_of true p = is_opening_place p
engine_place_is_of false p = not (is_opening_place p)

abbrev pub engine_job_is_of : Bool → Job → Bool
engine_job_is_of opening (At p) = engine_place_is_of opening p
engine_job_is_of opening (Resend p) = engine_place_is_of opening p
engine_job_is_of opening (Status p) = engine_place_is_of opening p
engine_job_is_of opening LastStatus = true
engine_job_is_of opening (Clear p owed) = engine_place_is_of opening p
engine_job_is_of opening (Check p owed) = engine_place_is_of opening p

abbrev pub engine_state_is_of : Bool → State → Bool
engine_state_is_of opening Leading = opening
engine_state_is_of opening (Doing job phase) = engine_job_is_of opening job
engine_state_is_of opening (Resting Opened) = opening
engine_state_is_of opening (Resting (Answered answer)) = not opening
engine_state_is_of opening (Resting (Stopped end)) = true

-- a request has to be sent, or the engine rests for another reason than a lost acknowledgement
abbrev pub engine_is_quiet : State → Bool
engine_is_quiet Leading = false
engine_is_quiet (Doing job Ask) = true
engine_is_quiet (Doing job phase) = false
engine_is_quiet (Resting (Stopped Lost)) = false
engine_is_quiet (Resting outcome) = true
