-- What an engine returns: its cue, its outcome, and how many accesses are begun.
use Rattle.std.specs.Prelude.{not, ℕ, ◌+◌, ◌^◌, ◌<◌, ◌==◌, Bool, true, false, if◌then◌else◌, Option, Some, None}
use Rattle.std.specs.Prelude.{is_some}
use Rattle.swd_port.specs.declared.access.Answer.TheVariants.{Written}
use Rattle.swd_port.specs.declared.cue.Cue.{Cue}
use Rattle.swd_port.specs.declared.cue.Cue.TheVariants.{Lead, Ask as CueAsk, Take, Give, Pass}
use Rattle.swd_bits.specs.Phases.{data_phase_number}
use Rattle.swd_host.specs.declared.task.Bursts.{Bursts}
use Rattle.swd_host.specs.declared.task.Task.{Task}
use Rattle.swd_host.specs.declared.outcome.Outcome.{Outcome}
use Rattle.swd_host.specs.declared.outcome.Outcome.TheVariants.{Opened, Answered}
use Rattle.swd_host.specs.declared.request.HostStep.TheVariants.{Identify, Confirm}
use Rattle.swd_host.specs.declared.request.Job.{Job}
use Rattle.swd_host.specs.declared.request.Job.TheVariants.{At}
use Rattle.swd_host.specs.declared.engine.Phase.{Phase}
use Rattle.swd_host.specs.declared.engine.Phase.TheVariants.{Ask, Data, Waited, Faulted}
use Rattle.swd_host.specs.declared.engine.State.{State}
use Rattle.swd_host.specs.declared.engine.State.TheVariants.{Leading, Doing, Resting}
use Rattle.swd_host.specs.declared.engine.Engine.{Engine}
use Rattle.swd_host.specs.Tasks.{is_burst_write}
use Rattle.swd_host.specs.Requests.{engine_request_for, engine_word_for}

-- the OK to the next access's DRW write, whose data is due, has answered the current access
abbrev pub engine_is_ahead_at : Job → Phase → Task → Bool
engine_is_ahead_at (At Confirm) Data task = is_burst_write task
engine_is_ahead_at job phase task = false

abbrev pub engine_is_ahead_in : State → Task → Bool
engine_is_ahead_in (Doing job phase) task = engine_is_ahead_at job phase task
engine_is_ahead_in state task = false

abbrev pub engine_is_ahead : Engine → Bool
engine_is_ahead e = engine_is_ahead_in e.state e.task

-- how many unanswered accesses had their DRW request sent
abbrev pub engine_begun : Engine → ℕ
engine_begun e = if engine_is_ahead e then 0 else e.begun

-- the cue of a data phase; where the current access is answered, the engine rests
abbrev pub engine_data_cue : Bool → Option ℕ → Option Cue
engine_data_cue true word = None
engine_data_cue false (Some word) = Some (Give (data_phase_number word))
engine_data_cue false None = Some Take

-- The line reset. Inside a transaction it has a hundred ones, of which the first 34 are released.
abbrev pub engine_lead_cue : Bool → Cue
engine_lead_cue inside = Lead (if inside then 100 else 56) (if inside then 34 else 0) (not inside) 2

abbrev pub engine_cue_at : State → Bool → Task → Option Cue
engine_cue_at Leading stray task = Some (engine_lead_cue stray)
engine_cue_at (Doing job Ask) stray task = Some (CueAsk (engine_request_for job task))
engine_cue_at (Doing job Data) stray task =
    engine_data_cue (engine_is_ahead_at job Data task) (engine_word_for job task)
engine_cue_at (Doing job Waited) stray task = Some Pass
engine_cue_at (Doing job Faulted) stray task = Some Pass
engine_cue_at (Resting outcome) stray task = None

abbrev pub engine_cue : Engine → Option Cue
engine_cue e = engine_cue_at e.state e.stray e.task

-- there is a cue, and P holds of it
abbrev pub EngineHasCue : (Cue → Type 0) → Option Cue → Type 0
EngineHasCue P (Some cue) = P cue
EngineHasCue P None = ⊥

-- the outcome that an engine has reached
abbrev pub engine_outcome_at : State → Task → Option Outcome
engine_outcome_at (Resting outcome) task = Some outcome
engine_outcome_at (Doing job phase) task = if engine_is_ahead_at job phase task then Some (Answered Written) else None
engine_outcome_at Leading task = None

abbrev pub engine_outcome : Engine → Option Outcome
engine_outcome e = engine_outcome_at e.state e.task

-- a data phase to send has 33 bits
abbrev pub IsEnginePhaseCue : Cue → Type 0
IsEnginePhaseCue (Give bits) = bits < 2 ^ 33
IsEnginePhaseCue cue = Unit {0}

-- an access may start: the engine rests, and hasn't stopped
abbrev pub engine_may_start : Option Outcome → Bool
engine_may_start (Some Opened) = true
engine_may_start (Some (Answered answer)) = true
engine_may_start outcome = false

-- one more request, saturating at 2^64 - 1
abbrev pub engine_count_more : ℕ → ℕ
engine_count_more n = if n == 18446744073709551615 then n else n + 1

-- it has reached an outcome
abbrev pub engine_is_resting : Engine → Bool
engine_is_resting e = is_some (engine_outcome e)

-- how many requests were sent
abbrev pub engine_requests : Engine → ℕ
engine_requests e = e.requests

-- which accesses it performs in bursts
abbrev pub engine_bursts : Engine → Bursts
engine_bursts e = e.bursts

-- the number of events that the opening, and each access, may meet
abbrev pub engine_tries : Engine → ℕ
engine_tries e = e.tries

-- the job of a state
abbrev pub engine_job : State → Job
engine_job (Doing job phase) = job
engine_job state = At Identify
