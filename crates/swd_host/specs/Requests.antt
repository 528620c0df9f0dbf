-- The requests that a host sends: the opening, an access, and what follows an error.
use Rattle.std.specs.Prelude.{ℕ, Bool, true, false, not, if◌then◌else◌, Option, Some, None, is_some, unwrap_or}
use Rattle.swd_bits.specs.declared.request.Request.{Request}
use Rattle.swd_port.specs.PlainMemory.{plain_address}
use Rattle.swd_port.specs.Port.{port_request_for}
use Rattle.swd_port.specs.declared.register.Register.{Register}
use Rattle.swd_port.specs.declared.register.Register.TheVariants.{DpidrRead, AbortWrite, CtrlStatRead, CtrlStatWrite}
use Rattle.swd_port.specs.declared.register.Register.TheVariants.{SelectWrite, ResendRead, RdbuffRead, CswRead}
use Rattle.swd_port.specs.declared.register.Register.TheVariants.{CswWrite, TarWrite, DrwRead, DrwWrite}
use Rattle.swd_host.specs.declared.task.Task.{Task}
use Rattle.swd_host.specs.declared.task.Task.TheVariants.{Read, BurstRead, Write, BurstWrite}
use Rattle.swd_host.specs.declared.task.Bursts.{Bursts}
use Rattle.swd_host.specs.declared.task.Bursts.TheVariants.{Never}
use Rattle.swd_host.specs.declared.request.HostStep.{HostStep}
use Rattle.swd_host.specs.declared.request.HostStep.TheVariants.{Identify, WriteAbort, CheckCtrlStat, Select, Power}
use Rattle.swd_host.specs.declared.request.HostStep.TheVariants.{Powered, Configure, ReadCsw, Configured, WriteTar}
use Rattle.swd_host.specs.declared.request.HostStep.TheVariants.{Transfer, Confirm, Behind}
use Rattle.swd_host.specs.declared.request.Job.{Job}
use Rattle.swd_host.specs.declared.request.Job.TheVariants.{At, Resend, Status, LastStatus, Clear, Check}
use Rattle.swd_host.specs.Tasks.{access_of_task, task_is_read}
use Rattle.swd_host.specs.Flags.{host_abort_word}

-- DRW, in the direction of the access
abbrev pub task_drw_register : Task → Register
task_drw_register (Read at) = DrwRead
task_drw_register (BurstRead at) = DrwRead
task_drw_register (Write at word) = DrwWrite
task_drw_register (BurstWrite at word) = DrwWrite

-- what confirms an access: RDBUFF's OK, or in a burst the OK to the next access's DRW request
abbrev pub task_confirming_register : Task → Register
task_confirming_register (BurstRead at) = DrwRead
task_confirming_register (BurstWrite at word) = DrwWrite
task_confirming_register task = RdbuffRead

-- the register of each place, for SELECT 0
abbrev pub engine_register_at : HostStep → Task → Register
engine_register_at Identify task = DpidrRead
engine_register_at WriteAbort task = AbortWrite
engine_register_at CheckCtrlStat task = CtrlStatRead
engine_register_at Select task = SelectWrite
engine_register_at Power task = CtrlStatWrite
engine_register_at Powered task = CtrlStatRead
engine_register_at Configure task = CswWrite
engine_register_at ReadCsw task = CswRead
engine_register_at Configured task = RdbuffRead
engine_register_at WriteTar task = TarWrite
engine_register_at Transfer task = task_drw_register task
engine_register_at Confirm task = task_confirming_register task
engine_register_at Behind task = ResendRead

abbrev pub engine_register_for : Job → Task → Register
engine_register_for (At p) task = engine_register_at p task
engine_register_for (Resend p) task = ResendRead
engine_register_for (Status p) task = CtrlStatRead
engine_register_for LastStatus task = CtrlStatRead
engine_register_for (Clear p owed) task = AbortWrite
engine_register_for (Check p owed) task = CtrlStatRead

abbrev pub engine_request_for : Job → Task → Request
engine_request_for job task = port_request_for (engine_register_for job task)

-- the word of an access, if it is a write
abbrev pub word_of_task : Task → Option ℕ
word_of_task (Read at) = None
word_of_task (BurstRead at) = None
word_of_task (Write at word) = Some word
word_of_task (BurstWrite at word) = Some word

-- the word that is written, if the request is a write whose word the engine has
abbrev pub engine_word_for : Job → Task → Option ℕ
engine_word_for (At WriteAbort) task = Some 0x0000_001e
engine_word_for (At Select) task = Some 0
engine_word_for (At Power) task = Some 0x5000_0000
engine_word_for (At Configure) task = Some 0x2300_0012
engine_word_for (At WriteTar) task = Some (plain_address (access_of_task task))
engine_word_for (At Transfer) task = word_of_task task
engine_word_for (At p) task = None
engine_word_for (Clear p owed) task = Some (host_abort_word owed)
engine_word_for (Resend p) task = None
engine_word_for (Status p) task = None
engine_word_for LastStatus task = None
engine_word_for (Check p owed) task = None

-- the next place where no error occurs; the last place of each sequence follows itself
abbrev pub engine_next_place : HostStep → HostStep
engine_next_place Identify = WriteAbort
engine_next_place WriteAbort = CheckCtrlStat
engine_next_place CheckCtrlStat = Select
engine_next_place Select = Power
engine_next_place Power = Powered
engine_next_place Powered = Configure
engine_next_place Configure = ReadCsw
engine_next_place ReadCsw = Configured
engine_next_place Configured = Configured
engine_next_place WriteTar = Transfer
engine_next_place Transfer = Confirm
engine_next_place Confirm = Confirm
engine_next_place Behind = Behind

-- the place of DRW's request, if it is a write
abbrev pub task_drw_place : Task → Option HostStep
task_drw_place (Read at) = None
task_drw_place (BurstRead at) = None
task_drw_place task = Some Transfer

-- the write that the request at a place confirms; `aims`: TAR was written for the access
abbrev pub engine_confirmed : HostStep → Task → Bool → Option HostStep
engine_confirmed CheckCtrlStat task aims = Some WriteAbort
engine_confirmed Power task aims = Some Select
engine_confirmed Powered task aims = Some Power
engine_confirmed ReadCsw task aims = Some Configure
engine_confirmed Transfer task aims = if aims then Some WriteTar else None
engine_confirmed Confirm task aims = task_drw_place task
engine_confirmed p task aims = None

-- where the access's DRW write was corrupted, TAR's write is sent again before it: nothing has confirmed it, and a
-- debug port with a write buffer may have discarded it (IHI 0031, B4)
abbrev pub engine_repeats_tar : HostStep → Bool → Bursts → Bool
engine_repeats_tar Confirm aims Never = aims
engine_repeats_tar p aims kind = false

-- the place to continue from once WDATAERR is cleared: the write that was corrupted, or TAR's before it; else the place
-- itself
abbrev pub engine_repeat_place : HostStep → Task → Bool → Bursts → HostStep
engine_repeat_place p task aims kind =
    if engine_repeats_tar p aims kind then WriteTar else unwrap_or (engine_confirmed p task aims) p

-- never answered WAIT or FAULT
abbrev pub engine_place_is_exempt : HostStep → Bool
engine_place_is_exempt Identify = true
engine_place_is_exempt WriteAbort = true
engine_place_is_exempt CheckCtrlStat = true
engine_place_is_exempt Powered = true
engine_place_is_exempt p = false

abbrev pub engine_job_is_exempt : Job → Bool
engine_job_is_exempt (At p) = engine_place_is_exempt p
engine_job_is_exempt (Resend p) = false
engine_job_is_exempt job = true

-- the request that reads the word of a place again after wrong parity: RESEND for the word of RDBUFF, or of DRW in a
-- block
abbrev pub engine_reread_job : HostStep → Job
engine_reread_job Configured = Resend Configured
engine_reread_job Confirm = Resend Confirm
engine_reread_job p = At p

-- the request is a write whose word the engine has
abbrev pub engine_job_is_write : Job → Task → Bool
engine_job_is_write job task = is_some (engine_word_for job task)

-- the word that is read here is ignored: that of a posted read, and RDBUFF's after a write
abbrev pub engine_word_is_ignored : HostStep → Task → Bool
engine_word_is_ignored ReadCsw task = true
engine_word_is_ignored Transfer task = true
engine_word_is_ignored Confirm task = not (task_is_read task)
engine_word_is_ignored p task = false

abbrev pub engine_place_is_confirm : HostStep → Bool
engine_place_is_confirm Confirm = true
engine_place_is_confirm p = false

abbrev pub engine_place_is_behind : HostStep → Bool
engine_place_is_behind Behind = true
engine_place_is_behind p = false

-- how many unanswered accesses, at least, are begun once the request is sent: DRW starts the current access, and what
-- confirms a read of a block starts the next
abbrev pub task_confirm_starts : Task → ℕ
task_confirm_starts (BurstRead at) = 2
task_confirm_starts task = 0

abbrev pub engine_job_starts : Job → Task → ℕ
engine_job_starts (At Transfer) task = 1
engine_job_starts (At Confirm) task = task_confirm_starts task
engine_job_starts job task = 0
