-- An engine as integers. Each enum is numbered from 1 on, so no engine has all zeros. An unused field is 0.
use Rattle.std.specs.Prelude.{ℕ, Option, Some, None, List}
use Rattle.swd_bits.specs.Bits.{bit}
use Rattle.swd_port.specs.declared.access.Answer.TheVariants.{Value, Written, BusFault}
use Rattle.swd_host.specs.declared.flags.Flags.{Flags}
use Rattle.swd_host.specs.declared.outcome.End.TheVariants.{All, Lost, TriesOut, WrongId, Confused}
use Rattle.swd_host.specs.declared.outcome.Outcome.{Outcome}
use Rattle.swd_host.specs.declared.outcome.Outcome.TheVariants.{Opened, Answered, Stopped}
use Rattle.swd_host.specs.declared.task.Bursts.{Bursts}
use Rattle.swd_host.specs.declared.task.Bursts.TheVariants.{Never, Writes, Reads}
use Rattle.swd_host.specs.declared.task.Task.{Task}
use Rattle.swd_host.specs.declared.task.Task.TheVariants.{Read, BurstRead, Write, BurstWrite}
use Rattle.swd_host.specs.declared.request.HostStep.{HostStep}
use Rattle.swd_host.specs.declared.request.HostStep.TheVariants.{Identify, WriteAbort, CheckCtrlStat, Select, Power}
use Rattle.swd_host.specs.declared.request.HostStep.TheVariants.{Powered, Configure, ReadCsw, Configured, WriteTar}
use Rattle.swd_host.specs.declared.request.HostStep.TheVariants.{Transfer, Confirm, Behind}
use Rattle.swd_host.specs.declared.request.Job.{Job}
use Rattle.swd_host.specs.declared.request.Job.TheVariants.{At, Resend, Status, LastStatus, Clear, Check}
use Rattle.swd_host.specs.declared.engine.Ahead.{Ahead}
use Rattle.swd_host.specs.declared.engine.Ahead.TheVariants.{Unsent, Sent, Failed}
use Rattle.swd_host.specs.declared.engine.Phase.{Phase}
use Rattle.swd_host.specs.declared.engine.Phase.TheVariants.{Ask, Data, Waited, Faulted}
use Rattle.swd_host.specs.declared.engine.State.{State}
use Rattle.swd_host.specs.declared.engine.State.TheVariants.{Leading, Doing, Resting}
use Rattle.swd_host.specs.declared.engine.Engine.{Engine}
use Rattle.swd_host.specs.declared.fields.EngineFields.{EngineFields}
use Rattle.swd_host.specs.declared.fields.JobFields.{JobFields}
use Rattle.swd_host.specs.declared.fields.OutcomeFields.{OutcomeFields}
use Rattle.swd_host.specs.declared.fields.StateFields.{StateFields}
use Rattle.swd_host.specs.declared.fields.TarFields.{TarFields}
use Rattle.swd_host.specs.declared.fields.TaskFields.{TaskFields}
use Rattle.swd_host.specs.Flags.{no_host_flags}
use Rattle.swd_port.specs.declared.access.Answer.{Answer}
use Rattle.swd_host.specs.declared.outcome.Ending.{Ending}
use Rattle.swd_host.specs.Reports.{HostReport}

abbrev pub engine_place_number : HostStep → ℕ
engine_place_number Identify = 1
engine_place_number WriteAbort = 2
engine_place_number CheckCtrlStat = 3
engine_place_number Select = 4
engine_place_number Power = 5
engine_place_number Powered = 6
engine_place_number Configure = 7
engine_place_number ReadCsw = 8
engine_place_number Configured = 9
engine_place_number WriteTar = 10
engine_place_number Transfer = 11
engine_place_number Confirm = 12
engine_place_number Behind = 13

abbrev pub engine_phase_number : Phase → ℕ
engine_phase_number Ask = 1
engine_phase_number Data = 2
engine_phase_number Waited = 3
engine_phase_number Faulted = 4

abbrev pub engine_ahead_number : Ahead → ℕ
engine_ahead_number Unsent = 1
engine_ahead_number Sent = 2
engine_ahead_number Failed = 3

abbrev pub bursts_number : Bursts → ℕ
bursts_number Writes = 1
bursts_number Reads = 2
bursts_number Never = 3

-- the fields of an outcome with this kind and word
abbrev pub engine_outcome_of_kind : ℕ → ℕ → OutcomeFields
engine_outcome_of_kind kind word = record { word = word; kind = kind }

abbrev pub no_engine_outcome : OutcomeFields
no_engine_outcome = engine_outcome_of_kind 0 0

abbrev pub engine_outcome_fields : Outcome → OutcomeFields
engine_outcome_fields Opened = engine_outcome_of_kind 1 0
engine_outcome_fields (Answered (Value word)) = engine_outcome_of_kind 2 word
engine_outcome_fields (Answered Written) = engine_outcome_of_kind 3 0
engine_outcome_fields (Answered BusFault) = engine_outcome_of_kind 4 0
engine_outcome_fields (Stopped All) = engine_outcome_of_kind 5 0
engine_outcome_fields (Stopped Lost) = engine_outcome_of_kind 6 0
engine_outcome_fields (Stopped TriesOut) = engine_outcome_of_kind 7 0
engine_outcome_fields (Stopped (WrongId word)) = engine_outcome_of_kind 8 word
engine_outcome_fields (Stopped Confused) = engine_outcome_of_kind 9 0

-- the fields of a job with this kind, place and flags
abbrev pub engine_job_of_kind : ℕ → ℕ → Flags → JobFields
engine_job_of_kind kind place flags =
    record { kind = kind; place = place; error = bit flags.error; damaged = bit flags.damaged }

abbrev pub no_engine_job : JobFields
no_engine_job = engine_job_of_kind 0 0 no_host_flags

abbrev pub engine_job_fields : Job → JobFields
engine_job_fields (At p) = engine_job_of_kind 1 (engine_place_number p) no_host_flags
engine_job_fields (Resend p) = engine_job_of_kind 2 (engine_place_number p) no_host_flags
engine_job_fields (Status p) = engine_job_of_kind 3 (engine_place_number p) no_host_flags
engine_job_fields LastStatus = engine_job_of_kind 4 0 no_host_flags
engine_job_fields (Clear p owed) = engine_job_of_kind 5 (engine_place_number p) owed
engine_job_fields (Check p owed) = engine_job_of_kind 6 (engine_place_number p) owed

abbrev pub engine_state_fields : State → StateFields
engine_state_fields Leading = record { outcome = no_engine_outcome; job = no_engine_job; kind = 1; phase = 0 }
engine_state_fields (Doing job phase) =
    record { outcome = no_engine_outcome; job = engine_job_fields job; kind = 2; phase = engine_phase_number phase }
engine_state_fields (Resting outcome) =
    record { outcome = engine_outcome_fields outcome; job = no_engine_job; kind = 3; phase = 0 }

abbrev pub task_fields : Task → TaskFields
task_fields (Read at) = record { addr = at; word = 0; kind = 1 }
task_fields (BurstRead at) = record { addr = at; word = 0; kind = 2 }
task_fields (Write at word) = record { addr = at; word = word; kind = 3 }
task_fields (BurstWrite at word) = record { addr = at; word = word; kind = 4 }

abbrev pub engine_tar_fields : Option ℕ → TarFields
engine_tar_fields None = record { word = 0; known = 0 }
engine_tar_fields (Some at) = record { word = at; known = 1 }

-- the fields of an engine
abbrev pub fields_of_engine : Engine → EngineFields
fields_of_engine e = record {
  requests = e.requests;
  state = engine_state_fields e.state;
  task = task_fields e.task;
  tar = engine_tar_fields e.tar;
  tries = e.tries;
  events = e.events;
  aims = bit e.aims;
  bursts = bursts_number e.bursts;
  ahead = engine_ahead_number e.ahead;
  begun = e.begun;
  stray = bit e.stray;
}

-- the report with these answers
abbrev pub host_report_to : List Answer → Ending → HostReport
host_report_to answers ending = record {
  answers = answers;
  begun = ending.begun;
  requests = ending.requests;
  ended = ending.ended;
}
