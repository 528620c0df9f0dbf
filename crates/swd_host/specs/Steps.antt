-- The state to which the reply to a cue leads the engine, unless it stops.
use Rattle.std.specs.Prelude.{ℕ, ◌≡◌, ◌||◌, ◌&&◌, not, Bool, true, false, if◌then◌else◌, Option, Some, None}
use Rattle.swd_port.specs.declared.access.Answer.{Answer}
use Rattle.swd_port.specs.declared.access.Answer.TheVariants.{Written, Value, BusFault}
use Rattle.swd_port.specs.PlainMemory.{plain_address}
use Rattle.swd_host.specs.declared.engine.Ahead.{Ahead}
use Rattle.swd_host.specs.declared.engine.Ahead.TheVariants.{Unsent, Sent, Failed}
use Rattle.swd_host.specs.declared.engine.Phase.TheVariants.{Ask, Data, Waited, Faulted}
use Rattle.swd_host.specs.declared.engine.State.{State}
use Rattle.swd_host.specs.declared.engine.State.TheVariants.{Leading, Doing, Resting}
use Rattle.swd_host.specs.declared.flags.Flags.{Flags}
use Rattle.swd_host.specs.declared.outcome.End.TheVariants.{Confused}
use Rattle.swd_host.specs.declared.outcome.Outcome.TheVariants.{Opened, Answered, Stopped}
use Rattle.swd_host.specs.declared.request.Job.{Job}
use Rattle.swd_host.specs.declared.request.Job.TheVariants.{At, Resend, Status, LastStatus, Clear, Check}
use Rattle.swd_host.specs.declared.request.HostStep.{HostStep}
use Rattle.swd_host.specs.declared.request.HostStep.TheVariants.{Identify, ReadCsw, Transfer, Confirm, Behind}
use Rattle.swd_host.specs.declared.task.Task.{Task}
use Rattle.swd_host.specs.declared.task.Bursts.{Bursts}
use Rattle.swd_host.specs.Flags.{host_flags_in}
use Rattle.swd_host.specs.Requests.{engine_reread_job, engine_repeat_place, engine_word_is_ignored, engine_next_place}
use Rattle.swd_host.specs.Addresses.{burst_next_address}
use Rattle.swd_host.specs.Tasks.{access_of_task, task_is_block, task_is_read}

abbrev pub engine_is_stopped : State → Bool
engine_is_stopped (Resting (Stopped end)) = true
engine_is_stopped x = false

-- the opening or an access has ended without a stop
abbrev pub engine_is_rested : State → Bool
engine_is_rested (Resting Opened) = true
engine_is_rested (Resting (Answered answer)) = true
engine_is_rested x = false

-- it is this state, unless the engine stopped
abbrev pub EngineGoesTo : State → State → Type 0
EngineGoesTo y x = engine_is_stopped x ≡ false → x ≡ y

abbrev pub engine_confused : State
engine_confused = Resting (Stopped Confused)

-- after the data phase of a write
abbrev pub engine_after_write : Job → State
engine_after_write (At p) = Doing (At (engine_next_place p)) Ask
engine_after_write (Clear p owed) = Doing (Check p owed) Ask
engine_after_write job = engine_confused

-- after the turnaround that follows FAULT
abbrev pub engine_after_fault : Job → Task → State
engine_after_fault (At p) task = Doing (Status p) Ask
engine_after_fault (Resend Confirm) task =
    if task_is_block task then Doing (Status Behind) Ask else Doing LastStatus Ask
engine_after_fault job task = Doing LastStatus Ask

-- after a lead, the data phase of a write or a turnaround
abbrev pub engine_after_cue : State → Task → State
engine_after_cue (Doing job Data) task = engine_after_write job
engine_after_cue (Doing job Waited) task = Doing job Ask
engine_after_cue (Doing job Faulted) task = engine_after_fault job task
engine_after_cue (Doing job Ask) task = engine_confused
engine_after_cue Leading task = Doing (At Identify) Ask
engine_after_cue (Resting outcome) task = engine_confused

-- after the word that is read at a place, where that is ignored
abbrev pub engine_after_ignored_word : HostStep → State
engine_after_ignored_word Confirm = Resting (Answered Written)
engine_after_ignored_word p = Doing (At (engine_next_place p)) Ask

-- after the word that is read at a place of an access; only the place that confirms it has one
abbrev pub engine_after_value : HostStep → ℕ → State
engine_after_value Confirm word = Resting (Answered (Value word))
engine_after_value p word = engine_confused

-- after the word that RESEND returns
abbrev pub engine_after_resend : HostStep → ℕ → State
engine_after_resend Confirm word = Resting (Answered (Value word))
engine_after_resend Behind word = Resting (Answered (Value word))
engine_after_resend p word = engine_confused

-- a FAULT at this place can only be a bus error: of a read, at what confirms it; of the next read of a block, after it
abbrev pub engine_fault_is_bus_error : HostStep → Task → Bool
engine_fault_is_bus_error Confirm task = task_is_read task
engine_fault_is_bus_error Behind task = true
engine_fault_is_bus_error p task = false

abbrev pub engine_after_status : HostStep → Flags → Task → State
engine_after_status p flags task = if engine_fault_is_bus_error p task && not flags.error then engine_confused else
    Doing (Clear p flags) Ask

-- after the flag of a bus error is cleared
abbrev pub engine_after_clearing : HostStep → State
engine_after_clearing Confirm = Resting (Answered BusFault)
engine_after_clearing Behind = Doing (Resend Behind) Ask
engine_after_clearing p = Doing (At p) Ask

-- after the flags are read that ABORT left
abbrev pub engine_after_check : HostStep → Flags → Flags → Task → Bool → Bursts → State
engine_after_check p owed now task aims kind =
    if now.error || now.damaged then Doing (Clear p (record { error = owed.error; damaged = true })) Ask else
    if owed.error then engine_after_clearing p else Doing (At (engine_repeat_place p task aims kind)) Ask

-- after the data phase of a read: its word, or `None` after wrong parity
abbrev pub engine_after_read : Job → Option ℕ → Task → Bool → Bursts → State
engine_after_read (At p) None task aims kind =
    if engine_word_is_ignored p task then engine_after_ignored_word p else Doing (engine_reread_job p) Ask
engine_after_read (At p) (Some word) task aims kind =
    if engine_word_is_ignored p task then engine_after_ignored_word p else engine_after_value p word
engine_after_read (Resend p) (Some word) task aims kind = engine_after_resend p word
engine_after_read (Status p) (Some word) task aims kind = engine_after_status p (host_flags_in word) task
engine_after_read (Check p owed) (Some word) task aims kind =
    engine_after_check p owed (host_flags_in word) task aims kind
engine_after_read LastStatus (Some word) task aims kind = engine_confused
engine_after_read (Clear p owed) (Some word) task aims kind = engine_confused
engine_after_read job None task aims kind = Doing job Ask

-- the state of the next access of a block where the engine comes to rest
abbrev pub engine_ahead_sent : Task → Ahead
engine_ahead_sent task = if task_is_block task then Sent else Unsent

abbrev pub engine_ahead_to : Job → Task → Ahead
engine_ahead_to (At Confirm) task = engine_ahead_sent task
engine_ahead_to (Resend Confirm) task = engine_ahead_sent task
engine_ahead_to (Resend Behind) task = Failed
engine_ahead_to job task = Unsent

-- where the engine rests, this is the state of the next access
abbrev pub EngineRestsWith : Ahead → State → Ahead → Type 0
EngineRestsWith ahead x known = engine_is_rested x ≡ true → known ≡ ahead

-- The word of this read decides what comes next. Any other word is ignored, or it is the answer of an access, after
-- which the next one starts.
abbrev pub engine_word_decides : Job → Bool
engine_word_decides (At ReadCsw) = false
engine_word_decides (At Transfer) = false
engine_word_decides (At Confirm) = false
engine_word_decides (Resend Confirm) = false
engine_word_decides (Resend Behind) = false
engine_word_decides job = true

-- a data phase comes next
abbrev pub engine_is_at_data : State → Bool
engine_is_at_data (Doing job Data) = true
engine_is_at_data x = false

-- what TAR is known to hold after an access: the next address, in the same kilobyte, if no transfer was a bus error
abbrev pub engine_tar_left : Answer → Ahead → Task → Option ℕ
engine_tar_left BusFault ahead task = None
engine_tar_left answer Failed task = None
engine_tar_left answer ahead task = burst_next_address (plain_address (access_of_task task))

-- the same where the word that this read returned answers the access
abbrev pub engine_tar_to : Job → Task → Option ℕ
engine_tar_to (Resend Behind) task = None
engine_tar_to job task = burst_next_address (plain_address (access_of_task task))

-- where the engine rests, TAR is known to hold this
abbrev pub EngineRestsAtTar : Option ℕ → State → Option ℕ → Type 0
EngineRestsAtTar tar x known = engine_is_rested x ≡ true → known ≡ tar
