-- What one call of the engine changes, and what successive calls of engine and wire keep.
use Rattle.std.specs.Prelude.{ℕ, ◌≡◌, ◌+◌, ◌-◌, ◌*◌, ◌^◌, ◌<◌, ◌≤◌, ◌&&◌, ◌||◌, Bool, true, false, not, if◌then◌else◌}
use Rattle.std.specs.Prelude.{Option, Some, None, Result, Ok, Err, min}
use Rattle.swd_host.specs.declared.task.Task.{Task}
use Rattle.swd_bits.specs.Bits.{bit}
use Rattle.swd_port.specs.declared.access.Access.{Access}
use Rattle.swd_port.specs.declared.access.Answer.{Answer}
use Rattle.swd_port.specs.Bus.{Bus}
use Rattle.swd_port.specs.PlainMemory.{plain_address}
use Rattle.swd_port.specs.Port.{Port}
use Rattle.swd_host.specs.declared.outcome.End.{End}
use Rattle.swd_host.specs.declared.outcome.End.TheVariants.{All, Lost}
use Rattle.swd_host.specs.declared.outcome.Outcome.{Outcome}
use Rattle.swd_host.specs.declared.outcome.Outcome.TheVariants.{Opened, Answered, Stopped}
use Rattle.swd_host.specs.declared.task.Bursts.{Bursts}
use Rattle.swd_host.specs.declared.request.HostStep.TheVariants.{WriteTar, Transfer, Confirm}
use Rattle.swd_port.specs.declared.access.Answer.TheVariants.{BusFault}
use Rattle.swd_host.specs.declared.engine.Ahead.{Ahead}
use Rattle.swd_host.specs.declared.engine.Ahead.TheVariants.{Unsent, Sent, Failed}
use Rattle.swd_host.specs.declared.request.Job.{Job}
use Rattle.swd_host.specs.declared.request.Job.TheVariants.{At}
use Rattle.swd_host.specs.declared.engine.Phase.{Phase}
use Rattle.swd_host.specs.declared.engine.Phase.TheVariants.{Ask, Data}
use Rattle.swd_host.specs.declared.engine.State.{State}
use Rattle.swd_host.specs.declared.engine.State.TheVariants.{Leading, Doing, Resting}
use Rattle.swd_host.specs.declared.engine.Engine.{Engine}
use Rattle.swd_host.specs.Addresses.{engine_knows_address, continues_burst}
use Rattle.swd_host.specs.Tasks.{task_for, access_of_task, is_burst, task_is_block, task_most_begun}
use Rattle.swd_host.specs.Bursts.{event_requests}
use Rattle.swd_host.specs.Engines.{engine_is_ahead, engine_is_resting, engine_job}
use Rattle.swd_host.specs.Progress.{engine_left_for, engine_left_in, engine_stray_left, engine_least_for}
use Rattle.swd_host.specs.Progress.{engine_least_in, engine_open_requests, engine_state_is_of, engine_is_quiet}
use Rattle.swd_host.specs.Tracks.{EngineBase, EngineFollowsPort, IsTask, engine_begun_once_sent, engine_state_after_ack}
use Rattle.swd_host.specs.Early.{EngineResumes}

-- an engine at the start of the opening, also one that resumes (`again`) after a lost acknowledgement
pub record EngineIsNew (kind : Bursts) (again : Bool) (most : ℕ) (e : Engine) : Type 0 where
  pub leads : e.state ≡ Leading
  pub tries : e.tries ≡ most
  pub events : e.events ≡ 0
  pub begun : e.begun ≡ 0
  pub bursts : e.bursts ≡ kind
  pub task : IsTask e.task
  pub burst : is_burst e.task ≡ false
  pub requests : e.requests ≡ 0
  pub stray : e.stray ≡ again

-- the next access was a bus error, which the current one met
abbrev pub engine_ahead_failed : Ahead → Bool
engine_ahead_failed Failed = true
engine_ahead_failed ahead = false

abbrev pub engine_next_failed : Engine → Bool
engine_next_failed e = not (engine_is_ahead e) && engine_ahead_failed e.ahead

-- The state in which an access starts. It is at the data of its DRW write, if that write was answered OK already, or at
-- its confirmation, if its DRW read was. A bus error that was met already is its answer. Else it is at TAR's write, or
-- at DRW where TAR is known.
abbrev pub engine_first_state : Bool → Ahead → Bool → State
engine_first_state true ahead aims = Doing (At Transfer) Data
engine_first_state false Sent aims = Doing (At Confirm) Ask
engine_first_state false Failed aims = Resting (Answered BusFault)
engine_first_state false Unsent true = Doing (At WriteTar) Ask
engine_first_state false Unsent false = Doing (At Transfer) Ask

-- An access starts, without an event so far. It is begun exactly where its DRW request was sent already, to confirm the
-- access before. If it was a bus error that the one before met, it is answered, so it isn't begun, and no request was
-- sent for the one that follows.
pub record EngineStarts (a : Access) (following : Option Access) (e f : Engine) : Type 0 where
  pub task : f.task ≡ task_for e.bursts a (if engine_next_failed e then None else following)
  pub aims : f.aims ≡ not (engine_is_ahead e || engine_knows_address e.tar (plain_address a))
  pub state : f.state ≡ engine_first_state (engine_is_ahead e) e.ahead f.aims
  pub begun : f.begun ≡ bit (is_burst e.task && not (engine_next_failed e))
  pub ahead : f.ahead ≡ Unsent
  pub bursts : f.bursts ≡ e.bursts
  pub events : f.events ≡ 0
  pub tar : f.tar ≡ e.tar
  pub tries : f.tries ≡ e.tries
  pub requests : f.requests ≡ e.requests
  pub stray : f.stray ≡ false

-- what an acknowledgement changes; the current access is begun once its DRW request was sent, and in a block the next
-- one once its own was
pub record EngineSeesAck (seen : ℕ) (e f : Engine) : Type 0 where
  pub state : f.state ≡ engine_state_after_ack (engine_job e.state) seen
  pub task : f.task ≡ e.task
  pub aims : f.aims ≡ e.aims
  pub tar : f.tar ≡ e.tar
  pub tries : f.tries ≡ e.tries
  pub events : f.events ≡ e.events
  pub bursts : f.bursts ≡ e.bursts
  pub stray : f.stray ≡ e.stray
  pub begun : f.begun ≡ engine_begun_once_sent e.state e.task e.begun
  pub least : engine_least_in f.aims f.state ≤ engine_least_in e.aims e.state + 1
  pub part : (opening : Bool) → engine_state_is_of opening e.state ≡ true → engine_state_is_of opening f.state ≡ true

-- how many unanswered accesses are begun at a new state; an answer leaves at most the next one of a block
abbrev pub engine_begun_left : State → Task → ℕ → ℕ
engine_begun_left (Resting (Answered answer)) task b = min b (bit (task_is_block task))
engine_begun_left state task b = b

-- an engine never stops with `All`: the caller that starts the accesses reports that
abbrev pub engine_stops_at_all : State → Bool
engine_stops_at_all (Resting (Stopped All)) = true
engine_stops_at_all state = false

-- A step from the state x to the next request or an outcome, with these bounds on the requests still open and sent. It
-- starts no access.
pub record EngineLands (open_then sent_then : ℕ) (x : State) (e f : Engine) : Type 0 where
  pub task : f.task ≡ e.task
  pub aims : f.aims ≡ e.aims
  pub tries : f.tries ≡ e.tries
  pub requests : f.requests ≡ e.requests
  pub bursts : f.bursts ≡ e.bursts
  pub begun : f.begun ≡ engine_begun_left f.state e.task e.begun
  pub never : engine_stops_at_all f.state ≡ false
  pub left : engine_open_requests f ≤ event_requests e.bursts * (e.tries - e.events) + engine_stray_left e.stray
      + open_then
  pub least : engine_least_in f.aims f.state ≤ sent_then
  pub part : (opening : Bool) → engine_state_is_of opening x ≡ true → engine_state_is_of opening f.state ≡ true
  pub quiet : engine_is_quiet f.state ≡ true

-- after the data phase or turnaround of a job
abbrev pub EngineLandsFromJob : Job → Phase → Engine → Engine → Type 0
EngineLandsFromJob job phase e f = EngineLands (engine_left_for e.bursts job - 1) (engine_least_for e.aims job + 1)
    (Doing job phase) e f

-- after an event: this request is sent, which the event's requests cover
abbrev pub EngineLandsAtEvent : Job → Engine → Engine → Type 0
EngineLandsAtEvent job e f = EngineLands (engine_left_for e.bursts job - event_requests e.bursts)
    (engine_least_for e.aims job) (Doing job Ask) e f

-- the access is answered
abbrev pub EngineLandsAnswered : Engine → Engine → Type 0
EngineLandsAnswered e f = EngineLands 0 (bit e.aims + 2) (Doing (At Confirm) Data) e f

abbrev pub engine_lands_from : Engine → Engine → Type 0
engine_lands_from e f = EngineLands (engine_left_in e.bursts e.state) (engine_least_in e.aims e.state) e.state e f

-- WHAT AN ENGINE AND THE PORT AT THE OTHER END KEEP, from one moment to a later one; the count of requests doesn't
-- saturate
abbrev pub EngineIsCountable : Engine → Type 0
EngineIsCountable e = e.requests + engine_open_requests e < 2 ^ 64

-- what the engine keeps by itself, whatever the target answers
pub record EngineWorks (e f : Engine) : Type 0 where
  pub task : f.task ≡ e.task
  pub aims : f.aims ≡ e.aims
  pub tries : f.tries ≡ e.tries
  pub part : (opening : Bool) → engine_state_is_of opening e.state ≡ true → engine_state_is_of opening f.state ≡ true
  pub rests : engine_is_resting e ≡ true → f ≡ e
  pub bursts : f.bursts ≡ e.bursts
  pub few : e.begun ≤ task_most_begun e.task → f.begun ≤ task_most_begun e.task
  pub unbegun : engine_state_is_of true e.state ≡ true → e.begun ≡ 0 → f.begun ≡ 0
  pub more : e.requests ≤ f.requests
  pub spends : f.requests + engine_open_requests f ≤ e.requests + engine_open_requests e
  pub least : EngineIsCountable e → e.requests + engine_least_in f.aims f.state ≤ f.requests
      + engine_least_in e.aims e.state
  pub begun : EngineIsCountable e → e.begun < f.begun
      → e.requests + bit e.aims + f.begun ≤ f.requests + engine_least_in e.aims e.state
  pub never : engine_stops_at_all e.state ≡ false → engine_stops_at_all f.state ≡ false

-- A port some calls later: it has the same DPIDR, and no count of disturbances or of lost requests has fallen.
pub record EnginePortLater (s t : Port) : Type 0 where
  pub identification : t.target.identification ≡ s.target.identification
  pub disturbed : s.tally.disturbed ≤ t.tally.disturbed
  pub lost : s.tally.lost ≤ t.tally.lost

-- what the engine keeps with the port, over a target that conforms to the model
pub record EngineGoesWithPort (e : Engine) (s : Port) (f : Engine) (t : Port) : Type 0 where
  pub works : EngineWorks e f
  pub follows : (base : EngineBase) (m : Bus) → EngineFollowsPort base m e s → EngineFollowsPort base m f t
  pub resumes : (base : EngineBase) (start : Port) → EngineResumes base start e s → EngineResumes base start f t
  pub later : EnginePortLater s t
  pub asked : EngineIsCountable e → t.tally.asked + e.requests ≡ s.tally.asked + f.requests
  -- over such a target the opening's last request is never answered FAULT, so a lost acknowledgement leaves one request
  -- of the bound unused
  pub lost_early : engine_is_resting e ≡ false → (base : EngineBase) (start : Port) → EngineResumes base start e s
      → engine_state_is_of true e.state ≡ true →
      f.state ≡ Resting (Stopped Lost)
      → f.requests + 1 + event_requests f.bursts * (f.tries - f.events) ≤ e.requests + engine_open_requests e

-- an access from its start on
abbrev pub EngineAccessGoes : Access → Option Access → Engine → Port → Engine → Port → Type 0
EngineAccessGoes a following e s f t = (g : Engine) × EngineStarts a following e g × EngineGoesWithPort g s f t

abbrev pub EngineAccessWorks : Access → Option Access → Engine → Engine → Type 0
EngineAccessWorks a following e f = (g : Engine) × EngineStarts a following e g × EngineWorks g f

-- the access continues the burst, where its DRW write was answered OK
pub record EngineContinuesBurst (e : Engine) (a : Access) : Type 0 where
  pub on : engine_is_ahead e ≡ true → continues_burst (access_of_task e.task) (Some a) ≡ true

-- the state at the end of the opening, and the outcome of an access
abbrev pub engine_state_opened_as : Result (Unit {0}) End → State
engine_state_opened_as (Ok u) = Resting Opened
engine_state_opened_as (Err end) = Resting (Stopped end)

abbrev pub engine_answer_outcome : Result Answer End → Outcome
engine_answer_outcome (Ok answer) = Answered answer
engine_answer_outcome (Err end) = Stopped end
