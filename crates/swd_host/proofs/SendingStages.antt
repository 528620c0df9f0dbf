-- The stages of an access, among the calls so far: what a FAULT more leaves, and which calls are none of DRW's.
use Rattle.swd_host.proofs.Words.{◌≡◌, ◌+◌, ◌==◌, ℕ, Bool, true, false, refl, ap, inl, inr, arith, ◌⊎◌, List, length}
use Rattle.swd_host.proofs.Words.{Stopped, Task, Job, State, Resting, At, Check, Clear, LastStatus, Resend, Status}
use Rattle.swd_host.proofs.Words.{Behind, Confirm, task_is_block, access_of_task, Access, Answer, ◌&&◌}
use Rattle.swd_port.specs.declared.access.Access.TheVariants.{Read}
use Rattle.swd_port.specs.declared.cue.Cue.{Cue}
use Rattle.swd_port.specs.Steps.{is_port_ask}
use Rattle.swd_port.specs.declared.cue.Cue.TheVariants.{Lead, Ask as CueAsk, Take, Give, Pass}
use Rattle.swd_host.specs.Sent.{HostSince, HostListHasAccess, HostAwaitsNone, host_asks_result, host_since_refused}
use Rattle.swd_host.specs.Sent.{Quiet, Refused, Failed as Fails}
use Rattle.swd_host.specs.Stages.{engine_stage, engine_fault_stage, HostSawRefusal}
use Rattle.swd_host.specs.Steps.{engine_is_stopped, EngineGoesTo}

-- the access in hand, and in a block the next one
pub record IsTaskInList (list : List Access) (answers : List Answer) (task : Task) : Type 0 where
  pub has : HostListHasAccess list (length answers) (access_of_task task)
  pub next : task_is_block task ≡ true → (at : ℕ) × HostListHasAccess list (length answers + 1) (Read at)

-- a number is 1, or its test for 1 fails
pub engine_okay_or_not : (v : ℕ) → (v ≡ 1) ⊎ ((v == 1) ≡ false)
engine_okay_or_not v = grind arith

-- an engine is where it is led, or it stopped
pub engine_led_or_stopped : (x y : State) → EngineGoesTo y x → (x ≡ y) ⊎ (engine_is_stopped x ≡ true)
engine_led_or_stopped (Resting (Stopped end)) y h = inr refl
engine_led_or_stopped x y h = inl (h refl)

-- no other call is a request for DRW or RDBUFF
pub engine_call_not_drw : (cue : Cue) (okays : Bool) → is_port_ask cue ≡ false → (host_asks_result cue && okays) ≡ true
    → ⊥
engine_call_not_drw (CueAsk q) okays plain h = cc
engine_call_not_drw Take okays plain h = cc
engine_call_not_drw (Give bits) okays plain h = cc
engine_call_not_drw Pass okays plain h = cc
engine_call_not_drw (Lead ones undriven switch low) okays plain h = cc

-- FAULT was seen
pub engine_stage_refused : (f : HostSince) → HostSawRefusal (host_since_refused f)
engine_stage_refused Quiet = tt
engine_stage_refused Refused = tt
engine_stage_refused Fails = tt

-- a FAULT more leaves no access that waits for its confirmation
pub engine_fault_settled : (s : ℕ) (f : HostSince) → HostAwaitsNone s (host_since_refused f)
engine_fault_settled s Quiet = tt
engine_fault_settled s Refused = tt
engine_fault_settled s Fails = tt

-- nor does one that was seen
pub engine_refused_settled : (s : ℕ) (f : HostSince) → HostSawRefusal f → HostAwaitsNone s f
engine_refused_settled s Quiet h = absurd h
engine_refused_settled s Refused h = tt
engine_refused_settled s Fails h = tt

-- where no data passed, no access waits for its confirmation
pub engine_none_settled : (s : ℕ) (f : HostSince) → s ≡ 0 → HostAwaitsNone s f
engine_none_settled s Quiet h = h
engine_none_settled s Refused h = tt
engine_none_settled s Fails h = tt

-- a FAULT more
pub engine_stage_fault : (job : Job) (task : Task) (s c : ℕ) (f : HostSince) → engine_stage job task s c f
    → engine_fault_stage job task s c (host_since_refused f)
engine_stage_fault (At Confirm) task s c f i = (i.0, i.1, engine_stage_refused f)
engine_stage_fault (At Behind) task s c f i = absurd i
engine_stage_fault (At p) task s c f i = (i.0, i.1, engine_fault_settled s f)
engine_stage_fault (Resend Confirm) task s c f i = (i.0, i.1, i.2)
engine_stage_fault (Resend Behind) task s c f i = (i.0, i.1, ap host_since_refused i.2, i.3)
engine_stage_fault (Resend p) task s c f i = (i.0, i.1, engine_fault_settled s f)
engine_stage_fault (Status Confirm) task s c f i = (i.0, i.1, engine_stage_refused f)
engine_stage_fault (Status Behind) task s c f i = i
engine_stage_fault (Status p) task s c f i = (i.0, i.1, engine_fault_settled s f)
engine_stage_fault (Clear Confirm owed) task s c f i = (
  i.0,
  i.1,
  record { refused = engine_stage_refused f; error = λ e. ap host_since_refused (i.2.error e); write = i.2.write },
)
engine_stage_fault (Clear Behind owed) task s c f i = (i.0, i.1, ap host_since_refused i.2, i.3, i.4)
engine_stage_fault (Clear p owed) task s c f i = (i.0, i.1, engine_fault_settled s f)
engine_stage_fault (Check Confirm owed) task s c f i = (
  i.0,
  i.1,
  record { refused = engine_stage_refused f; error = λ e. ap host_since_refused (i.2.error e); write = i.2.write },
)
engine_stage_fault (Check Behind owed) task s c f i = (i.0, i.1, ap host_since_refused i.2, i.3, i.4)
engine_stage_fault (Check p owed) task s c f i = (i.0, i.1, engine_fault_settled s f)
engine_stage_fault LastStatus task s c f i = tt
