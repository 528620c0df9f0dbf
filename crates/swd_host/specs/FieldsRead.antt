-- The engine that is read from any integers. Only `EngineFields::engine` uses it, which rejects an engine whose own
-- fields differ.
use Rattle.std.specs.Prelude.{ℕ, ◌==◌, if◌then◌else◌, Option, Some, None}
use Rattle.swd_port.specs.declared.access.Answer.TheVariants.{Value, Written, BusFault}
use Rattle.swd_host.specs.declared.flags.Flags.{Flags}
use Rattle.swd_host.specs.declared.outcome.End.TheVariants.{All, Lost, TriesOut, WrongId, Confused}
use Rattle.swd_host.specs.declared.outcome.Outcome.{Outcome}
use Rattle.swd_host.specs.declared.outcome.Outcome.TheVariants.{Opened, Answered, Stopped}
use Rattle.swd_host.specs.declared.task.Bursts.{Bursts}
use Rattle.swd_host.specs.declared.task.Bursts.TheVariants.{Never, Writes, Reads}
use Rattle.swd_host.specs.declared.task.Task.{Task}
use Rattle.swd_host.specs.declared.task.Task.TheVariants.{Read, BurstRead, Write, BurstWrite}
use Rattle.swd_host.specs.declared.request.HostStep.{HostStep}
use Rattle.swd_host.specs.declared.request.HostStep.TheVariants.{Identify, WriteAbort, CheckCtrlStat, Select, Power}
use Rattle.swd_host.specs.declared.request.HostStep.TheVariants.{Powered, Configure, ReadCsw, Configured, WriteTar}
use Rattle.swd_host.specs.declared.request.HostStep.TheVariants.{Transfer, Confirm, Behind}
use Rattle.swd_host.specs.declared.request.Job.{Job}
use Rattle.swd_host.specs.declared.request.Job.TheVariants.{At, Resend, Status, LastStatus, Clear, Check}
use Rattle.swd_host.specs.declared.engine.Ahead.{Ahead}
use Rattle.swd_host.specs.declared.engine.Ahead.TheVariants.{Unsent, Sent, Failed}
use Rattle.swd_host.specs.declared.engine.Phase.{Phase}
use Rattle.swd_host.specs.declared.engine.Phase.TheVariants.{Ask, Data, Waited, Faulted}
use Rattle.swd_host.specs.declared.engine.State.{State}
use Rattle.swd_host.specs.declared.engine.State.TheVariants.{Leading, Doing, Resting}
use Rattle.swd_host.specs.declared.engine.Engine.{Engine}
use Rattle.swd_host.specs.declared.fields.EngineFields.{EngineFields}
use Rattle.swd_host.specs.declared.fields.JobFields.{JobFields}
use Rattle.swd_host.specs.declared.fields.OutcomeFields.{OutcomeFields}
use Rattle.swd_host.specs.declared.fields.StateFields.{StateFields}
use Rattle.swd_host.specs.declared.fields.TarFields.{TarFields}
use Rattle.swd_host.specs.declared.fields.TaskFields.{TaskFields}

abbrev pub engine_place_from : ℕ → HostStep
engine_place_from n =
    if n == 1 then Identify else if n == 2 then WriteAbort else if n == 3 then CheckCtrlStat else if n == 4 then Select
    else if n == 5 then Power else if n == 6 then Powered else if n == 7 then Configure else if n == 8 then ReadCsw
    else if n == 9 then Configured else if n == 10 then WriteTar else if n == 11 then Transfer
    else if n == 12 then Confirm else Behind

abbrev pub engine_phase_from : ℕ → Phase
engine_phase_from n = if n == 1 then Ask else if n == 2 then Data else if n == 3 then Waited else Faulted

abbrev pub engine_ahead_from : ℕ → Ahead
engine_ahead_from n = if n == 1 then Unsent else if n == 2 then Sent else Failed

abbrev pub bursts_at : ℕ → Bursts
bursts_at n = if n == 1 then Writes else if n == 3 then Never else Reads

abbrev pub engine_outcome_from : OutcomeFields → Outcome
engine_outcome_from f =
    if f.kind == 1 then Opened else if f.kind == 2 then Answered (Value f.word)
    else if f.kind == 3 then Answered Written else if f.kind == 4 then Answered BusFault
    else if f.kind == 5 then Stopped All else if f.kind == 6 then Stopped Lost else if f.kind == 7 then Stopped TriesOut
    else if f.kind == 8 then Stopped (WrongId f.word) else Stopped Confused

abbrev pub engine_flags_from : JobFields → Flags
engine_flags_from f = record { error = f.error == 1; damaged = f.damaged == 1 }

abbrev pub engine_job_from : JobFields → Job
engine_job_from f =
    if f.kind == 1 then At (engine_place_from f.place) else if f.kind == 2 then Resend (engine_place_from f.place)
    else if f.kind == 3 then Status (engine_place_from f.place) else if f.kind == 4 then LastStatus
    else if f.kind == 5 then Clear (engine_place_from f.place) (engine_flags_from f) else Check
    (engine_place_from f.place) (engine_flags_from f)

abbrev pub engine_state_from : StateFields → State
engine_state_from f =
    if f.kind == 1 then Leading else if f.kind == 2 then Doing (engine_job_from f.job) (engine_phase_from f.phase)
    else Resting (engine_outcome_from f.outcome)

abbrev pub engine_task_from : TaskFields → Task
engine_task_from f =
    if f.kind == 1 then Read f.addr else if f.kind == 2 then BurstRead f.addr
    else if f.kind == 3 then Write f.addr f.word else BurstWrite f.addr f.word

abbrev pub engine_tar_from : TarFields → Option ℕ
engine_tar_from f = if f.known == 1 then Some f.word else None

abbrev pub engine_at : EngineFields → Engine
engine_at f = record {
  state = engine_state_from f.state;
  task = engine_task_from f.task;
  aims = f.aims == 1;
  tar = engine_tar_from f.tar;
  bursts = bursts_at f.bursts;
  ahead = engine_ahead_from f.ahead;
  tries = f.tries;
  events = f.events;
  begun = f.begun;
  requests = f.requests;
  stray = f.stray == 1;
}
