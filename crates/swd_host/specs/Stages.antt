-- What an engine knows of the calls so far, whatever the target answers.
use Rattle.std.specs.Prelude.{ℕ, ◌≡◌, ◌+◌, ◌≤◌, Bool, true, false, if◌then◌else◌, List, [], ◌∷◌, ◌++◌}
use Rattle.swd_bits.specs.Bits.{bit}
use Rattle.swd_port.specs.declared.access.Access.{Access}
use Rattle.swd_port.specs.declared.access.Answer.{Answer}
use Rattle.swd_port.specs.declared.access.Answer.TheVariants.{Written}
use Rattle.swd_port.specs.declared.call.Call.{Call}
use Rattle.swd_port.specs.declared.register.Register.TheVariants.{DrwWrite}
use Rattle.swd_port.specs.Steps.{is_port_ask}
use Rattle.swd_host.specs.declared.engine.Ahead.{Ahead}
use Rattle.swd_host.specs.declared.engine.Ahead.TheVariants.{Unsent, Sent as NextSent, Failed}
use Rattle.swd_host.specs.declared.engine.Engine.{Engine}
use Rattle.swd_host.specs.declared.engine.Phase.TheVariants.{Data, Faulted}
use Rattle.swd_host.specs.declared.engine.State.{State}
use Rattle.swd_host.specs.declared.engine.State.TheVariants.{Leading, Doing, Resting}
use Rattle.swd_host.specs.declared.flags.Flags.{Flags}
use Rattle.swd_host.specs.declared.outcome.End.{End}
use Rattle.swd_host.specs.declared.outcome.End.TheVariants.{All}
use Rattle.swd_host.specs.declared.outcome.Outcome.TheVariants.{Opened, Answered, Stopped}
use Rattle.swd_host.specs.declared.request.Job.{Job}
use Rattle.swd_host.specs.declared.request.Job.TheVariants.{At, Resend, Status, LastStatus, Clear, Check}
use Rattle.swd_host.specs.declared.request.HostStep.TheVariants.{Confirm, Behind}
use Rattle.swd_host.specs.declared.task.Task.{Task}
use Rattle.swd_host.specs.Engines.{engine_begun, engine_is_ahead, engine_is_ahead_at, engine_count_more}
use Rattle.swd_host.specs.Requests.{engine_job_starts, engine_register_for}
use Rattle.swd_host.specs.Sent.{HostSent, HostAwaitsNone, HostSince, host_awaits_drw, host_okay}
use Rattle.swd_host.specs.Sent.{HostMakes, host_idles}
use Rattle.swd_host.specs.Confirming.{HostConfirms, HostSettles}
use Rattle.swd_host.specs.Sent.{Quiet, Failed as Fails}
use Rattle.swd_host.specs.Tasks.{task_is_block, task_is_read}

-- the number of requests that an engine counts in these calls
abbrev pub engine_counted : List Call → ℕ
engine_counted [] = 0
engine_counted (call ∷ calls) = if is_port_ask call.cue then engine_count_more (engine_counted calls) else
    engine_counted calls

abbrev pub HostSawRefusal : HostSince → Type 0
HostSawRefusal Quiet = ⊥
HostSawRefusal since = Unit {0}

-- FAULT was seen, and STICKYERR where a bus error has to be cleared; otherwise the access is a write
pub record EngineOwesClearing (owed : Flags) (task : Task) (since : HostSince) : Type 0 where
  pub refused : HostSawRefusal since
  pub error : owed.error ≡ true → since ≡ Fails
  pub write : owed.error ≡ false → task_is_read task ≡ false

-- The stage before the request of a job: s, of how many accesses after the answered ones the data passed; c, how many
-- of them are confirmed; f, what was seen since.
abbrev pub engine_stage : Job → Task → ℕ → ℕ → HostSince → Type 0
engine_stage (At Confirm) task s c f = (s ≡ 1) × (c ≡ 0) × (f ≡ Quiet)
engine_stage (At Behind) task s c f = ⊥
engine_stage (Resend Confirm) task s c f = (s ≡ 1 + bit (task_is_block task)) × (c ≡ 1) × (task_is_read task ≡ true)
    × (f ≡ Quiet)
engine_stage (Resend Behind) task s c f = (s ≡ 2) × (c ≡ 1) × (f ≡ Fails) × (task_is_block task ≡ true)
engine_stage (Status Confirm) task s c f = (s ≡ 1) × (c ≡ 0) × HostSawRefusal f
engine_stage (Status Behind) task s c f = (s ≡ 2) × (c ≡ 1) × (task_is_block task ≡ true)
engine_stage (Clear Confirm owed) task s c f = (s ≡ 1) × (c ≡ 0) × EngineOwesClearing owed task f
engine_stage (Clear Behind owed) task s c f = (s ≡ 2) × (c ≡ 1) × (f ≡ Fails) × (task_is_block task ≡ true)
    × (owed.error ≡ true)
engine_stage (Check Confirm owed) task s c f = (s ≡ 1) × (c ≡ 0) × EngineOwesClearing owed task f
engine_stage (Check Behind owed) task s c f = (s ≡ 2) × (c ≡ 1) × (f ≡ Fails) × (task_is_block task ≡ true)
    × (owed.error ≡ true)
engine_stage LastStatus task s c f = Unit {0}
engine_stage job task s c f = (s ≤ 1) × (c ≡ 0) × HostAwaitsNone s f

-- the stage after the request was answered FAULT
abbrev pub engine_fault_stage : Job → Task → ℕ → ℕ → HostSince → Type 0
engine_fault_stage (At Confirm) task s c f = (s ≡ 1) × (c ≡ 0) × HostSawRefusal f
engine_fault_stage (Resend Confirm) task s c f = (s ≡ 1 + bit (task_is_block task)) × (c ≡ 1)
    × (task_is_read task ≡ true)
engine_fault_stage job task s c f = engine_stage job task s c f

-- the stage while its data phase is due
abbrev pub engine_data_stage : Job → Task → ℕ → ℕ → HostSince → Type 0
engine_data_stage (At Confirm) task s c f = (s ≡ 1) × (c ≡ 1) × (f ≡ Quiet)
engine_data_stage job task s c f = engine_stage job task s c f

-- the calls have these answers, and a stage of which S holds
pub record EngineStood (list : List Access) (answers : List Answer) (most : ℕ) (S : ℕ → ℕ → HostSince
    → Type 0) (calls : List Call)
    : Type 0 where
  pub sent : ℕ
  pub sure : ℕ
  pub since : HostSince
  pub at : S sent sure since
  pub few : sent ≤ most
  pub is : HostSent list answers sent sure since calls

-- no data phase of DRW is due
pub record EngineBetween (list : List Access) (answers : List Answer) (most : ℕ) (S : ℕ → ℕ → HostSince → Type 0)
    (calls : List Call) : Type 0 where
  pub none : host_awaits_drw calls ≡ false
  pub stood : EngineStood list answers most S calls

-- what is known while a data phase is due; where it is that of the next access, the current one is answered
abbrev pub EngineCallsAtData : Bool → List Access → List Answer → ℕ → Job → Task → List Call → Type 0
EngineCallsAtData true list answers most job task calls =
    EngineStood list (answers ++ Written ∷ []) 0 (λ s c f. c ≡ 0) calls
EngineCallsAtData false list answers most job task calls =
    EngineStood list answers most (engine_data_stage job task) calls

-- the data phase of a job is due
pub record EngineAwaitsData (list : List Access) (answers : List Answer) (most : ℕ) (job : Job) (task : Task)
    (calls : List Call) : Type 0 where
  pub earlier : List Call
  pub asked : calls ≡ host_okay (engine_register_for job task) ∷ earlier
  pub begun : engine_job_starts job task ≤ most
  pub stood : EngineCallsAtData (engine_is_ahead_at job Data task) list answers most job task calls

abbrev pub engine_ahead_stage : Ahead → ℕ → ℕ → HostSince → Type 0
engine_ahead_stage Unsent s c f = (s ≡ 0) × (c ≡ 0)
engine_ahead_stage NextSent s c f = (s ≡ 1) × (c ≡ 0) × (f ≡ Quiet)
engine_ahead_stage Failed s c f = (s ≡ 1) × (c ≡ 0) × (f ≡ Fails)

-- the DRW request of the next access was sent, so a block continues
abbrev pub engine_next_is_sent : Ahead → Bool
engine_next_is_sent Unsent = false
engine_next_is_sent ahead = true

pub record EngineAccessEnded (list : List Access) (answers : List Answer) (ahead : Ahead) (task : Task)
    (calls : List Call) : Type 0
  where
    pub none : host_awaits_drw calls ≡ false
    pub goes_on : engine_next_is_sent ahead ≡ true → task_is_block task ≡ true
    pub stood : EngineStood list answers 1 (engine_ahead_stage ahead) calls

-- what is known of the calls at a state of an access, after these answers
abbrev pub EngineKnowsAt : List Access → List Answer → State → Task → ℕ → Ahead → List Call → Type 0
EngineKnowsAt list answers (Doing job Data) task b ahead calls = EngineAwaitsData list answers b job task calls
EngineKnowsAt list answers (Doing job Faulted) task b ahead calls =
    EngineBetween list answers b (engine_fault_stage job task) calls
EngineKnowsAt list answers (Doing job phase) task b ahead calls =
    EngineBetween list answers b (engine_stage job task) calls
EngineKnowsAt list answers Leading task b ahead calls = ⊥
EngineKnowsAt list answers (Resting Opened) task b ahead calls = ⊥
EngineKnowsAt list answers (Resting (Answered answer)) task b ahead calls =
    EngineAccessEnded list (answers ++ answer ∷ []) ahead task calls
EngineKnowsAt list answers (Resting (Stopped end)) task b ahead calls =
    EngineStood list answers b (λ s c f. Unit {0}) calls

abbrev pub EngineKnowsCalls : List Access → List Answer → Engine → List Call → Type 0
EngineKnowsCalls list answers e calls = EngineKnowsAt list answers e.state e.task e.begun e.ahead calls

-- what is known of the calls where the engine rests and hasn't stopped; between two writes of a burst the data of the
-- next one is due
abbrev pub EngineCallsAtRestIn : Bool → List Access → List Answer → Ahead → Task → List Call → Type 0
EngineCallsAtRestIn true list answers ahead task calls =
    (earlier : List Call) × (calls ≡ host_okay DrwWrite ∷ earlier) × EngineStood list answers 0 (λ s c f. c ≡ 0) calls
EngineCallsAtRestIn false list answers ahead task calls = EngineAccessEnded list answers ahead task calls

abbrev pub EngineCallsAtRest : List Access → List Answer → Engine → List Call → Type 0
EngineCallsAtRest list answers e calls = EngineCallsAtRestIn (engine_is_ahead e) list answers e.ahead e.task calls

-- the request whose data phase is due was answered OK; before the lead there was no call
abbrev pub EngineAwaits : State → Task → List Call → Type 0
EngineAwaits Leading task calls = calls ≡ []
EngineAwaits (Doing job Data) task calls =
    (earlier : List Call) × (calls ≡ host_okay (engine_register_for job task) ∷ earlier)
EngineAwaits state task calls = Unit {0}

-- between two accesses, with the requests counted
pub record EngineCountsCalls (list : List Access) (answers : List Answer) (e : Engine) (calls : List Call) : Type 0
  where
    pub requests : e.requests ≡ engine_counted calls
    pub rests : EngineCallsAtRest list answers e calls
    pub makes : HostMakes list calls
    pub goes_on : host_idles calls ≡ false
    pub settles : HostSettles e.bursts calls

-- at `All` no data of another access passed
abbrev pub engine_most_begun_at : End → ℕ → ℕ
engine_most_begun_at All b = 0
engine_most_begun_at end b = b

-- at the end of a list
pub record EngineEndsWithCalls (list : List Access) (answers : List Answer) (e : Engine) (end : End)
    (calls : List Call) : Type 0 where
  pub requests : e.requests ≡ engine_counted calls
  pub stood : EngineStood list answers (engine_most_begun_at end (engine_begun e)) (λ s c f. Unit {0}) calls
  pub makes : HostMakes list calls
  pub idles : end ≡ All → host_idles calls ≡ true
  pub confirms : HostConfirms e.bursts calls

-- What an engine that opened its target as o reaches in these calls with a list. The calls follow those of the opening.
pub record EngineListCalls (list : List Access) (o f : Engine) (before after : List Answer) (end : End)
    (made : List Call) : Type 0
  where
    pub answers : List Answer
    pub added : after ≡ before ++ answers
    pub bursts : f.bursts ≡ o.bursts
    pub ends : (past : List Call) → EngineCountsCalls list [] o past
        → EngineEndsWithCalls list answers f end (made ++ past)
