-- What the engine's state implies about the port at the other end, and the bus behind it: the invariant of the host.
--
-- THE LETTERS. `s` is the port as it is now, or its target. `k`, the hand, is the current access, what is known of TAR
-- and of the next access, and the bus before the current access. `n` is the number of disturbances that the port had
-- counted at the start, plus the events that the engine met since. Each event was a disturbance, so the port counts at
-- least n (`paid`). `b` is how many unanswered accesses are begun, so that the bus may be that after them: 0, the
-- current one, or in a block of reads the next one too.
--
-- A REQUEST has two facts: `EngineBefore` its job, where it may be sent, and `EngineDuring`, where its OK was seen and
-- its data phase is due. `EngineDuring` implies `EngineBefore` of the next job. For an access without an error:
--
--     job           the request         before it (`EnginePlaceHas`)               the data phase that is due
--     At WriteTar   write TAR           EngineLacksTar: TAR has to be written      the address
--     At Transfer   read or write DRW   EngineHasTar: TAR has the address          a write's word; a read's is ignored
--     At Confirm    read RDBUFF         Under: sent, perhaps not done yet          a read's word; a write's is ignored
--     (the end)                         Finished: done, and the answer known
--
-- WriteTar is left out where TAR is known to have the address. In a burst the request for DRW of the next access takes
-- RDBUFF's place. In a block of reads it starts that access before this one is answered, and `EngineAheadAt` has what
-- is known of it.
--
-- AFTER AN ERROR, what is known instead of `EnginePlaceIsSure` (`EnginePlaceHas` holds, and no write was corrupted):
--
--     Hurt      the data of the write before was corrupted: WDATAERR is set, and this request will meet it
--     Waiting   WAIT came: what held before the request still does, with one more event
--     Refused   FAULT came, for corrupted data or a bus error of this access or the next; CTRL/STAT is read (Status)
--     Owes      CTRL/STAT showed which flags are set; ABORT is written (Clear)
--     Checks    ABORT was written, or its data was corrupted; CTRL/STAT is read again (Check)
--     Resent    a word's parity was wrong; RESEND returns the word again (Resend)
--     Within    the engine stopped: the begun accesses allow the bus, now and later
use Rattle.std.specs.Prelude.{ℕ, ◌≡◌, ◌≢◌, ◌+◌, ◌%◌, ◌^◌, ◌<◌, ◌≤◌, ◌⊎◌, ◌==◌, Bool, true, false, if◌then◌else◌, Option}
use Rattle.std.specs.Prelude.{Some, None, max}
use Rattle.swd_bits.specs.Bits.{bit}
use Rattle.swd_port.specs.declared.access.Access.{Access}
use Rattle.swd_port.specs.declared.access.Access.TheVariants.{Read as AccessRead, Write as AccessWrite}
use Rattle.swd_port.specs.declared.access.Answer.{Answer}
use Rattle.swd_port.specs.declared.access.Answer.TheVariants.{Value, Written, BusFault}
use Rattle.swd_port.specs.declared.wire.Due.{Due}
use Rattle.swd_port.specs.declared.wire.Due.TheVariants.{Nothing, Take, Give, Pass, Lost as DueLost}
use Rattle.swd_port.specs.Bus.{Bus, bus_answer, bus_after}
use Rattle.swd_port.specs.PlainMemory.{plain_address}
use Rattle.swd_port.specs.Registers.{port_select_zero, ctrl_stat_holds}
use Rattle.swd_bits.specs.Phases.{data_phase_number}
use Rattle.swd_port.specs.Choices.{port_flipped}
use Rattle.swd_port.specs.Port.{Port, Target}
use Rattle.swd_port.specs.declared.register.Register.{Register}
use Rattle.swd_port.specs.declared.register.Register.TheVariants.{AbortWrite, CtrlStatWrite, SelectWrite, CswWrite}
use Rattle.swd_port.specs.declared.register.Register.TheVariants.{TarWrite, DrwWrite}
use Rattle.swd_port.specs.declared.state.Reset.TheVariants.{Unreset, Live}
use Rattle.swd_port.specs.declared.state.PowerUp.TheVariants.{Seen}
use Rattle.swd_port.specs.declared.state.AfterAck.TheVariants.{Idle, Drives, Awaits}
use Rattle.swd_port.specs.Transfers.{PortSent, PortBecomes, PortTarAdvanced}
use Rattle.swd_host.specs.declared.flags.Flags.{Flags}
use Rattle.swd_host.specs.declared.outcome.End.{End}
use Rattle.swd_host.specs.declared.outcome.End.TheVariants.{Lost, TriesOut}
use Rattle.swd_host.specs.declared.outcome.Outcome.{Outcome}
use Rattle.swd_host.specs.declared.outcome.Outcome.TheVariants.{Opened, Answered, Stopped}
use Rattle.swd_host.specs.declared.task.Task.{Task}
use Rattle.swd_host.specs.declared.task.Task.TheVariants.{Read, BurstRead, Write, BurstWrite}
use Rattle.swd_host.specs.declared.request.HostStep.{HostStep}
use Rattle.swd_host.specs.declared.request.HostStep.TheVariants.{Identify, WriteAbort, CheckCtrlStat, Select, Power}
use Rattle.swd_host.specs.declared.request.HostStep.TheVariants.{Powered, Configure, ReadCsw, Configured, WriteTar}
use Rattle.swd_host.specs.declared.request.HostStep.TheVariants.{Transfer, Confirm, Behind}
use Rattle.swd_host.specs.declared.request.Job.{Job}
use Rattle.swd_host.specs.declared.request.Job.TheVariants.{At, Resend, Status, LastStatus, Clear, Check}
use Rattle.swd_host.specs.declared.engine.Ahead.{Ahead}
use Rattle.swd_host.specs.declared.engine.Ahead.TheVariants.{Unsent, Sent as NextSent, Failed as NextFailed}
use Rattle.swd_host.specs.declared.engine.Phase.TheVariants.{Ask, Data, Waited, Faulted}
use Rattle.swd_host.specs.declared.engine.State.{State}
use Rattle.swd_host.specs.declared.engine.State.TheVariants.{Leading, Doing, Resting}
use Rattle.swd_host.specs.declared.engine.Engine.{Engine}
use Rattle.swd_host.specs.Plain.{IsHostAccess}
use Rattle.swd_host.specs.Tasks.{access_of_task, task_is_block}
use Rattle.swd_host.specs.Engines.{engine_job}
use Rattle.swd_host.specs.Flags.{host_reads_power, host_csw_is_configured}
use Rattle.swd_host.specs.Requests.{engine_request_for, engine_next_place, engine_confirmed, engine_job_is_exempt}
use Rattle.swd_host.specs.Requests.{engine_place_is_exempt, engine_place_is_confirm, engine_place_is_behind}
use Rattle.swd_host.specs.Requests.{engine_job_starts}

-- the current access, whether TAR has to be written for it, what is known of TAR and of the next access where the
-- engine rests, and the bus before the access
pub record EngineHand : Type 0 where
  pub task : Task
  pub aims : Bool
  pub tar : Option ℕ
  pub ahead : Ahead
  pub memory : Bus

-- the bus after the current access
abbrev pub memory_once_task_done : EngineHand → Bus
memory_once_task_done k = bus_after (access_of_task k.task) k.memory

-- the next access of a block of reads, over the bus before it
abbrev pub block_next_read : Task → Access
block_next_read task = AccessRead (plain_address (access_of_task task) + 4)

abbrev pub block_next_hand : Task → Bus → EngineHand
block_next_hand task m = record {
  task = Read (plain_address (access_of_task task) + 4);
  aims = false;
  tar = None;
  ahead = Unsent;
  memory = m;
}

-- THE PORT, as the host knows it before each request of its sequences

-- a target that had a line reset, at rest
pub record OpeningIsReachable (m : Bus) (s : Target) : Type 0 where
  pub reset : s.reset ≢ Unreset
  pub select : s.select ≡ port_select_zero
  pub pending : s.pending ≡ None
  pub memory : s.memory ≡ m
  pub sticky : s.sticky_error ≡ false
  pub odd : s.identification % 2 ≡ 1

-- a live target at rest, STICKYERR clear
pub record EngineTargetCalm (m : Bus) (s : Target) : Type 0 where
  pub live : s.reset ≡ Live
  pub select : s.select ≡ port_select_zero
  pub pending : s.pending ≡ None
  pub memory : s.memory ≡ m
  pub sticky : s.sticky_error ≡ false

-- power was requested
pub record OpeningAsksPower (m : Bus) (s : Target) : Type 0 where
  pub calm : EngineTargetCalm m s
  pub debug : s.debug_power ≡ true
  pub system : s.system_power ≡ true

-- power was read as acknowledged
pub record OpeningHasPower (m : Bus) (s : Target) : Type 0 where
  pub calm : EngineTargetCalm m s
  pub debug : s.debug_power ≡ true
  pub system : s.system_power ≡ true
  pub debug_seen : s.debug_up ≡ Seen
  pub system_seen : s.system_up ≡ Seen

-- ready for transfers
pub record EngineTargetUp (m : Bus) (s : Target) : Type 0 where
  pub calm : EngineTargetCalm m s
  pub debug : s.debug_power ≡ true
  pub system : s.system_power ≡ true
  pub debug_seen : s.debug_up ≡ Seen
  pub system_seen : s.system_up ≡ Seen
  pub increments : s.increments ≡ true

-- the read buffer has the word of CSW
pub record OpeningHasReadCsw (m : Bus) (s : Target) : Type 0 where
  pub up : EngineTargetUp m s
  pub word : ℕ
  pub buffer : s.buffer ≡ Some word
  pub configured : host_csw_is_configured word ≡ true

pub record EngineHasTar (k : EngineHand) (s : Target) : Type 0 where
  pub up : EngineTargetUp k.memory s
  pub tar : s.tar ≡ Some (plain_address (access_of_task k.task))

-- TAR has to be written
pub record EngineLacksTar (k : EngineHand) (s : Target) : Type 0 where
  pub up : EngineTargetUp k.memory s
  pub aims : k.aims ≡ true

-- a live target that transfers: SELECT is 0, power is acknowledged, and TAR increments
pub record EngineTargetServes (s : Target) : Type 0 where
  pub live : s.reset ≡ Live
  pub select : s.select ≡ port_select_zero
  pub debug : s.debug_power ≡ true
  pub system : s.system_power ≡ true
  pub debug_seen : s.debug_up ≡ Seen
  pub system_seen : s.system_up ≡ Seen
  pub increments : s.increments ≡ true

-- the transfer was sent; b accesses are begun
pub record TaskTransferSent (b : ℕ) (k : EngineHand) (s : Target) : Type 0 where
  pub serves : EngineTargetServes s
  pub begun : 1 ≤ b
  pub sent : PortSent (access_of_task k.task) k.memory s

-- what holds before the request at a place, apart from WDATAERR
abbrev pub EnginePlaceHas : HostStep → ℕ → EngineHand → Target → Type 0
EnginePlaceHas Identify b k s = OpeningIsReachable k.memory s
EnginePlaceHas WriteAbort b k s = EngineTargetCalm k.memory s
EnginePlaceHas CheckCtrlStat b k s = EngineTargetCalm k.memory s
EnginePlaceHas Select b k s = EngineTargetCalm k.memory s
EnginePlaceHas Power b k s = EngineTargetCalm k.memory s
EnginePlaceHas Powered b k s = OpeningAsksPower k.memory s
EnginePlaceHas Configure b k s = OpeningHasPower k.memory s
EnginePlaceHas ReadCsw b k s = EngineTargetUp k.memory s
EnginePlaceHas Configured b k s = OpeningHasReadCsw k.memory s
EnginePlaceHas WriteTar b k s = EngineLacksTar k s
EnginePlaceHas Transfer b k s = EngineHasTar k s
EnginePlaceHas Confirm b k s = TaskTransferSent b k s
EnginePlaceHas Behind b k s = ⊥

abbrev pub engine_place_is_abort : HostStep → Bool
engine_place_is_abort WriteAbort = true
engine_place_is_abort _ = false

-- what holds where no write was corrupted; n disturbances were met as events, so at least n occurred
pub record EnginePlaceIsSure (p : HostStep) (n b : ℕ) (k : EngineHand) (s : Port) : Type 0 where
  pub has : EnginePlaceHas p b k s.target
  pub flag : engine_place_is_abort p ≡ false → s.target.write_error ≡ false
  pub paid : n ≤ s.tally.disturbed

-- the write before, which this request confirms, was corrupted
pub record EngineWriteDamaged (p : HostStep) (n b : ℕ) (k : EngineHand) (s : Port) : Type 0 where
  pub back : HostStep
  pub confirms : engine_confirmed p k.task k.aims ≡ Some back
  pub has : EnginePlaceHas back b k s.target
  pub flag : s.target.write_error ≡ true
  pub paid : n + 1 ≤ s.tally.disturbed

-- the transfer was a bus error, apart from STICKYERR
pub record TaskBusError (p : HostStep) (b : ℕ) (k : EngineHand) (s : Target) : Type 0 where
  pub place : engine_place_is_confirm p ≡ true
  pub begun : 1 ≤ b
  pub serves : EngineTargetServes s
  pub pending : s.pending ≡ None
  pub memory : s.memory ≡ memory_once_task_done k
  pub answer : bus_answer (access_of_task k.task) k.memory ≡ BusFault

-- RESEND met the bus error of the next read of a block; it returns this word once STICKYERR is cleared
pub record BlockNextBusError (p : HostStep) (b : ℕ) (k : EngineHand) (s : Target) : Type 0 where
  pub place : engine_place_is_behind p ≡ true
  pub begun : 2 ≤ b
  pub block : task_is_block k.task ≡ true
  pub word : ℕ
  pub answer : bus_answer (access_of_task k.task) k.memory ≡ Value word
  pub last : s.last_returned ≡ Some word
  pub broken : TaskBusError Confirm 1 (block_next_hand k.task (memory_once_task_done k)) s

-- whose bus error a request met
pub data EngineMetBusError (p : HostStep) (b : ℕ) (k : EngineHand) (s : Target) : Type 0 where
  own_error : TaskBusError p b k s → EngineMetBusError p b k s
  next_error : BlockNextBusError p b k s → EngineMetBusError p b k s

-- why a request met a flag
pub data EngineMetFlag (p : HostStep) (n b : ℕ) (k : EngineHand) (s : Port) : Type 0 where
  by_damage : EngineWriteDamaged p n b k s → EngineMetFlag p n b k s
  by_error : EngineMetBusError p b k s.target → s.target.sticky_error ≡ true → s.target.write_error ≡ false
      → n ≤ s.tally.disturbed → EngineMetFlag p n b k s

-- what held before the write that was corrupted
pub record EngineBeforeDamage (p : HostStep) (b : ℕ) (k : EngineHand) (s : Target) : Type 0 where
  pub back : HostStep
  pub confirms : engine_confirmed p k.task k.aims ≡ Some back
  pub has : EnginePlaceHas back b k s

-- the cause of the owed flags
abbrev pub EngineFlagCause : Bool → HostStep → ℕ → EngineHand → Target → Type 0
EngineFlagCause true p b k s = EngineMetBusError p b k s
EngineFlagCause false p b k s = EngineBeforeDamage p b k s

-- the flags that are set are the owed ones
pub record EngineOwesFlags (p : HostStep) (owed : Flags) (n b : ℕ) (k : EngineHand) (s : Port) : Type 0 where
  pub facts : EngineFlagCause owed.error p b k s.target
  pub error : s.target.sticky_error ≡ owed.error
  pub damaged : s.target.write_error ≡ owed.damaged
  pub paid : n ≤ s.tally.disturbed

-- ABORT was written. No flag is left, or the ABORT write was corrupted: WDATAERR is set, and STICKYERR is still as
-- owed.
pub data EngineChecksFlags (p : HostStep) (owed : Flags) (n b : ℕ) (k : EngineHand) (s : Port) : Type 0 where
  cleared : EngineFlagCause owed.error p b k s.target → s.target.sticky_error ≡ false → s.target.write_error ≡ false
      → n ≤ s.tally.disturbed → EngineChecksFlags p owed n b k s
  kept : EngineFlagCause owed.error p b k s.target → s.target.sticky_error ≡ owed.error → s.target.write_error ≡ true
      → n + 1 ≤ s.tally.disturbed → EngineChecksFlags p owed n b k s

-- the access was done; a read's word may have to be read again
pub record TaskTransferDone (b : ℕ) (k : EngineHand) (s : Target) : Type 0 where
  pub begun : 1 ≤ b
  pub up : EngineTargetUp (memory_once_task_done k) s
  pub advanced : PortTarAdvanced (plain_address (access_of_task k.task)) s

-- what is known of the next access, over the bus before it: in a block of reads it was sent, or was a bus error
-- whose flag is cleared
abbrev pub EngineAheadAt : Ahead → Task → Bus → Target → Type 0
EngineAheadAt Unsent task m s = EngineTargetUp m s
EngineAheadAt NextSent task m s = (task_is_block task ≡ true) × TaskTransferSent 1 (block_next_hand task m) s
EngineAheadAt NextFailed task m s = (task_is_block task ≡ true)
    × EngineTargetUp (bus_after (block_next_read task) m) s × (bus_answer (block_next_read task) m ≡ BusFault)

-- TAR is what the engine knows, where no transfer is in flight; after a bus error it knows nothing
abbrev pub EngineKnowsTarAt : Ahead → Option ℕ → Target → Type 0
EngineKnowsTarAt Unsent tar s = (at : ℕ) → tar ≡ Some at → s.tar ≡ Some at
EngineKnowsTarAt NextSent tar s = Unit {0}
EngineKnowsTarAt NextFailed tar s = tar ≡ None

-- the access was done, with this known of the next one
abbrev pub TaskDoneWithAhead : Ahead → ℕ → EngineHand → Target → Type 0
TaskDoneWithAhead Unsent b k s = TaskTransferDone b k s
TaskDoneWithAhead ahead b k s = (2 ≤ b) × EngineAheadAt ahead k.task (memory_once_task_done k) s

abbrev pub task_ahead : Task → Ahead
task_ahead task = if task_is_block task then NextSent else Unsent

abbrev pub EngineWordReturned : HostStep → ℕ → ℕ → EngineHand → Target → Type 0
EngineWordReturned Configured word b k s = EngineTargetUp k.memory s × (host_csw_is_configured word ≡ true)
EngineWordReturned Confirm word b k s =
    TaskDoneWithAhead (task_ahead k.task) b k s × (bus_answer (access_of_task k.task) k.memory ≡ Value word)
EngineWordReturned Behind word b k s = TaskDoneWithAhead NextFailed b k s
    × (bus_answer (access_of_task k.task) k.memory ≡ Value word)
EngineWordReturned p word b k s = ⊥

-- this word was returned, and RESEND returns it again
pub record EngineResendWord (p : HostStep) (word : ℕ) (n b : ℕ) (k : EngineHand) (s : Port) : Type 0 where
  pub returned : EngineWordReturned p word b k s.target
  pub last : s.target.last_returned ≡ Some word
  pub flag : s.target.write_error ≡ false
  pub paid : n ≤ s.tally.disturbed

-- what holds before a request
abbrev pub EngineBefore : Job → ℕ → ℕ → EngineHand → Port → Type 0
EngineBefore (At p) n b k s = EnginePlaceIsSure p n b k s ⊎ EngineWriteDamaged p n b k s
EngineBefore (Resend p) n b k s = (word : ℕ) × EngineResendWord p word n b k s
EngineBefore (Status p) n b k s = EngineMetFlag p n b k s
EngineBefore LastStatus n b k s = ⊥
EngineBefore (Clear p owed) n b k s = EngineOwesFlags p owed n b k s
EngineBefore (Check p owed) n b k s = EngineChecksFlags p owed n b k s

-- DATA PHASES

-- the phase of this word is on the line; where a bit of it is changed, there is one more disturbance
pub data EngineReads (word : ℕ) (n : ℕ) (P : ℕ → Type 0) (s : Port) : Type 0 where
  whole : s.link.line ≡ Drives (data_phase_number word) → word < 2 ^ 32 → P n → EngineReads word n P s
  changed : (place : ℕ) → s.link.line ≡ Drives (port_flipped (Some place) (data_phase_number word)) → word < 2 ^ 32
      → P (n + 1) → EngineReads word n P s

-- the phase of this write is awaited
pub data EngineWrites (r : Register) (n : ℕ) (P : ℕ → Type 0) (s : Port) : Type 0 where
  whole : s.link.line ≡ Awaits r None → P n → EngineWrites r n P s
  changed : (place : ℕ) → s.link.line ≡ Awaits r (Some place) → P (n + 1) → EngineWrites r n P s

-- a word of CTRL/STAT shows the flags
pub record EngineReadsFlags (word : ℕ) (s : Target) : Type 0 where
  pub error : ctrl_stat_holds 0x20 word ≡ s.sticky_error
  pub damaged : ctrl_stat_holds 0x80 word ≡ s.write_error

abbrev pub EngineReadsStatus : Job → ℕ → ℕ → EngineHand → Port → Type 0
EngineReadsStatus job n b k s = (word : ℕ) × EngineReadsFlags word s.target
    × EngineReads word n (λ c. EngineBefore job c b k s) s

-- Power was requested, and CTRL/STAT showed whether it is acknowledged. If it isn't, there was a disturbance that isn't
-- met as an event yet.
pub record OpeningAskedPower (powered : Bool) (n b : ℕ) (k : EngineHand) (s : Port) : Type 0 where
  pub before : EngineBefore (At Powered) n b k s
  pub debug_there : powered ≡ true → s.target.write_error ≡ false → s.target.debug_up ≡ Seen
  pub system_there : powered ≡ true → s.target.write_error ≡ false → s.target.system_up ≡ Seen
  pub late : powered ≡ false → s.target.write_error ≡ false → n + 1 ≤ s.tally.disturbed

abbrev pub OpeningReadsPower : ℕ → ℕ → EngineHand → Port → Type 0
OpeningReadsPower n b k s = (word : ℕ) × EngineReadsFlags word s.target
    × EngineReads word n (λ c. OpeningAskedPower (host_reads_power word) c b k s) s

-- DPIDR was read
pub record OpeningIsAwake (n : ℕ) (k : EngineHand) (s : Port) : Type 0 where
  pub calm : EngineTargetCalm k.memory s.target
  pub odd : s.target.identification % 2 ≡ 1
  pub flag : s.target.write_error ≡ false
  pub paid : n ≤ s.tally.disturbed

-- the access is answered; in a block the next one is begun
pub record TaskIsFinished (answer : Answer) (n b : ℕ) (k : EngineHand) (s : Port) : Type 0 where
  pub begun : b ≡ bit (task_is_block k.task)
  pub up : EngineAheadAt k.ahead k.task (memory_once_task_done k) s.target
  pub answered : bus_answer (access_of_task k.task) k.memory ≡ answer
  pub known : EngineKnowsTarAt k.ahead k.tar s.target
  pub flag : s.target.write_error ≡ false
  pub paid : n ≤ s.tally.disturbed

-- the OK that confirms a write came
pub record TaskWriteConfirmed (n b : ℕ) (k : EngineHand) (s : Port) : Type 0 where
  pub done : TaskTransferDone b k s.target
  pub answered : bus_answer (access_of_task k.task) k.memory ≡ Written
  pub flag : s.target.write_error ≡ false
  pub paid : n ≤ s.tally.disturbed

abbrev pub TaskTransferPhase : Task → ℕ → ℕ → EngineHand → Port → Type 0
TaskTransferPhase (Read at) n b k s = EnginePlaceIsSure Confirm n b k s
TaskTransferPhase (BurstRead at) n b k s = EnginePlaceIsSure Confirm n b k s
TaskTransferPhase (Write at word) n b k s = (1 ≤ b)
    × EngineWrites DrwWrite n (λ c. EnginePlaceIsSure Transfer c b k s) s
TaskTransferPhase (BurstWrite at word) n b k s = (1 ≤ b)
    × EngineWrites DrwWrite n (λ c. EnginePlaceIsSure Transfer c b k s) s

abbrev pub TaskConfirmPhase : Task → ℕ → ℕ → EngineHand → Port → Type 0
TaskConfirmPhase (Read at) n b k s = (word : ℕ) × EngineReads word n (λ c. EngineResendWord Confirm word c b k s) s
TaskConfirmPhase (BurstRead at) n b k s = (word : ℕ) × EngineReads word n (λ c. EngineResendWord Confirm word c b k s) s
TaskConfirmPhase (Write at word) n b k s = TaskWriteConfirmed n b k s
-- the write was done, and the data of the next one is due
TaskConfirmPhase (BurstWrite at word) n b k s = EngineWrites DrwWrite n (λ c. TaskWriteConfirmed c b k s) s

-- what holds before a data phase
abbrev pub EngineDuring : Job → ℕ → ℕ → EngineHand → Port → Type 0
EngineDuring (At Identify) n b k s = EngineReads s.target.identification n (λ c. OpeningIsAwake c k s) s
EngineDuring (At WriteAbort) n b k s = EngineWrites AbortWrite n (λ c. EnginePlaceIsSure WriteAbort c b k s) s
EngineDuring (At CheckCtrlStat) n b k s = EngineReadsStatus (At CheckCtrlStat) n b k s
EngineDuring (At Select) n b k s = EngineWrites SelectWrite n (λ c. EnginePlaceIsSure Select c b k s) s
EngineDuring (At Power) n b k s = EngineWrites CtrlStatWrite n (λ c. EnginePlaceIsSure Power c b k s) s
EngineDuring (At Powered) n b k s = OpeningReadsPower n b k s
EngineDuring (At Configure) n b k s = EngineWrites CswWrite n (λ c. EnginePlaceIsSure Configure c b k s) s
EngineDuring (At ReadCsw) n b k s = EnginePlaceIsSure Configured n b k s
EngineDuring (At Configured) n b k s = (word : ℕ) × EngineReads word n (λ c. EngineResendWord Configured word c b k s) s
EngineDuring (At WriteTar) n b k s = EngineWrites TarWrite n (λ c. EnginePlaceIsSure WriteTar c b k s) s
EngineDuring (At Transfer) n b k s = TaskTransferPhase k.task n b k s
EngineDuring (At Confirm) n b k s = TaskConfirmPhase k.task n b k s
EngineDuring (At Behind) n b k s = ⊥
EngineDuring (Resend p) n b k s = (word : ℕ) × EngineReads word n (λ c. EngineResendWord p word c b k s) s
EngineDuring (Status p) n b k s = EngineReadsStatus (Status p) n b k s
EngineDuring LastStatus n b k s = ⊥
EngineDuring (Clear p owed) n b k s = EngineWrites AbortWrite n (λ c. EngineOwesFlags p owed c b k s) s
EngineDuring (Check p owed) n b k s = EngineReadsStatus (Check p owed) n b k s

-- ENDS

-- The bus is that before the access. Where the access is begun it may be that after it, and where the next one of
-- its block is begun too, that after both.
pub data EngineAllowsMemory (b : ℕ) (k : EngineHand) (m : Bus) : Type 0 where
  within_none : m ≡ k.memory → EngineAllowsMemory b k m
  within_first : 1 ≤ b → m ≡ memory_once_task_done k → EngineAllowsMemory b k m
  within_both : 2 ≤ b → task_is_block k.task ≡ true → m ≡ bus_after (block_next_read k.task) (memory_once_task_done k)
      → EngineAllowsMemory b k m

-- the bus is within these now, and once nothing is pending
pub record EngineMemoryWithin (b : ℕ) (k : EngineHand) (s : Target) : Type 0 where
  pub now : EngineAllowsMemory b k s.memory
  pub later : Bus
  pub becomes : PortBecomes later s
  pub ends : EngineAllowsMemory b k later

-- the request at a place met a flag; RESEND meets one only in a block
pub record EngineFaultAtPlace (p : HostStep) (n b : ℕ) (k : EngineHand) (s : Port) : Type 0 where
  pub free : engine_place_is_exempt p ≡ false
  pub refused : EngineMetFlag p n b k s

abbrev pub EngineFaultAtJob : Job → ℕ → ℕ → EngineHand → Port → Type 0
EngineFaultAtJob (At p) n b k s = EngineFaultAtPlace p n b k s
EngineFaultAtJob (Resend Confirm) n b k s = (task_is_block k.task ≡ true) × EngineMetFlag Behind n b k s
EngineFaultAtJob job n b k s = ⊥

-- WAIT was a disturbance, which isn't met as an event yet
pub record EngineWaitAtJob (job : Job) (n b : ℕ) (k : EngineHand) (s : Port) : Type 0 where
  pub free : engine_job_is_exempt job ≡ false
  pub before : EngineBefore job (n + 1) b k s

-- the counts at the start of the opening or the access: disturbed requests and lost ones
pub record EngineBase : Type 0 where
  pub disturbed : ℕ
  pub lost : ℕ

-- no acknowledgement was seen
pub record EngineLostAck (n : ℕ) (base : EngineBase) (b : ℕ) (k : EngineHand) (s : Port) : Type 0 where
  pub within : EngineMemoryWithin b k s.target
  pub more : base.lost < s.tally.lost
  pub paid : n ≤ s.tally.disturbed
  pub select : s.target.select ≡ port_select_zero

abbrev pub EngineStoppedAt : End → ℕ → ℕ → EngineBase → ℕ → EngineHand → Port → Type 0
EngineStoppedAt Lost n tries base b k s = EngineLostAck n base b k s
EngineStoppedAt TriesOut n tries base b k s =
    EngineMemoryWithin b k s.target × (base.disturbed + tries < s.tally.disturbed)
    × (s.target.select ≡ port_select_zero)
EngineStoppedAt end n tries base b k s = ⊥

-- a target before its first line reset, as it was made
pub record EngineTargetUnled (n : ℕ) (k : EngineHand) (s : Port) : Type 0 where
  pub select : s.target.select ≡ port_select_zero
  pub pending : s.target.pending ≡ None
  pub memory : s.target.memory ≡ k.memory
  pub sticky : s.target.sticky_error ≡ false
  pub odd : s.target.identification % 2 ≡ 1
  pub flag : s.target.write_error ≡ false
  pub line : s.link.line ≡ Idle
  pub paid : n ≤ s.tally.disturbed

pub record EngineIsReady (n : ℕ) (k : EngineHand) (s : Port) : Type 0 where
  pub up : EngineAheadAt k.ahead k.task k.memory s.target
  pub known : EngineKnowsTarAt k.ahead k.tar s.target
  pub flag : s.target.write_error ≡ false
  pub paid : n ≤ s.tally.disturbed

abbrev pub EngineRestsAt : Outcome → ℕ → ℕ → EngineBase → ℕ → EngineHand → Port → Type 0
EngineRestsAt Opened n tries base b k s = EngineIsReady n k s × (k.tar ≡ None) × (k.ahead ≡ Unsent)
EngineRestsAt (Answered answer) n tries base b k s = TaskIsFinished answer n b k s
EngineRestsAt (Stopped end) n tries base b k s = EngineStoppedAt end n tries base b k s

abbrev pub EngineStateTracks : State → ℕ → ℕ → EngineBase → ℕ → EngineHand → Port → Type 0
EngineStateTracks Leading n tries base b k s = EngineTargetUnled n k s
EngineStateTracks (Doing job Ask) n tries base b k s = EngineBefore job n b k s
EngineStateTracks (Doing job Data) n tries base b k s = EngineDuring job n b k s
EngineStateTracks (Doing job Waited) n tries base b k s = EngineWaitAtJob job n b k s
EngineStateTracks (Doing job Faulted) n tries base b k s = EngineFaultAtJob job n b k s
EngineStateTracks (Resting outcome) n tries base b k s = EngineRestsAt outcome n tries base b k s

abbrev pub hand_of_engine : Engine → Bus → EngineHand
hand_of_engine e m = record { task = e.task; aims = e.aims; tar = e.tar; ahead = e.ahead; memory = m }

-- what the engine's state implies about the port, from the counts and the bus at the start
abbrev pub TracksEngine : EngineBase → Bus → Engine → Port → Type 0
TracksEngine base m e s = EngineStateTracks e.state (base.disturbed + e.events) e.tries base e.begun
    (hand_of_engine e m) s

-- the access is valid, and in a burst the next word's address is in its kilobyte
abbrev pub IsTask : Task → Type 0
IsTask (Read at) = IsHostAccess (AccessRead at)
IsTask (BurstRead at) = IsHostAccess (AccessRead at) × (at % 1024 < 1020)
IsTask (Write at word) = IsHostAccess (AccessWrite at word)
IsTask (BurstWrite at word) = IsHostAccess (AccessWrite at word) × (at % 1024 < 1020)

-- the same for a whole engine: what it keeps over a target that conforms to the model
pub record EngineFollowsPort (base : EngineBase) (m : Bus) (e : Engine) (s : Port) : Type 0 where
  pub task : IsTask e.task
  pub lost : base.lost ≤ s.tally.lost
  pub tracks : TracksEngine base m e s

-- WHAT IS DUE
abbrev pub engine_data_due : Bool → Due
engine_data_due true = Take
engine_data_due false = Give

-- what may be due at a state; anything, where the line reset lets a data phase pass
abbrev pub EngineDueAt : State → Bool → Task → Due → Type 0
EngineDueAt Leading stray task due = stray ≡ false → due ≡ Nothing
EngineDueAt (Doing job Ask) stray task due = due ≡ Nothing
EngineDueAt (Doing job Data) stray task due = due ≡ engine_data_due (engine_request_for job task).read
EngineDueAt (Doing job Waited) stray task due = due ≡ Pass
EngineDueAt (Doing job Faulted) stray task due = due ≡ Pass
EngineDueAt (Resting (Stopped Lost)) stray task due = due ≡ DueLost
EngineDueAt (Resting outcome) stray task due = due ≡ Nothing

abbrev pub EngineDueFits : Engine → Port → Type 0
EngineDueFits e s = EngineDueAt e.state e.stray e.task s.link.due

-- WHAT A CALL OF THE ENGINE ASSUMES
-- what a word that was taken at a place shows
abbrev pub EngineTookWordAt : HostStep → ℕ → ℕ → ℕ → EngineHand → Port → Type 0
EngineTookWordAt Identify word n b k s = OpeningIsAwake n k s × (word % 2 ≡ 1)
EngineTookWordAt CheckCtrlStat word n b k s = EngineReadsFlags word s.target × EngineBefore (At CheckCtrlStat) n b k s
EngineTookWordAt Powered word n b k s = EngineReadsFlags word s.target
    × OpeningAskedPower (host_reads_power word) n b k s
EngineTookWordAt Configured word n b k s = EngineResendWord Configured word n b k s
EngineTookWordAt Confirm word n b k s = EngineResendWord Confirm word n b k s
EngineTookWordAt p word n b k s = ⊥

-- why an access has this answer, with this known of the next one
pub data TaskEarnsAnswer (answer : Answer) (ahead : Ahead) (n b : ℕ) (k : EngineHand) (s : Port) : Type 0 where
  by_transfer : TaskDoneWithAhead ahead b k s.target → bus_answer (access_of_task k.task) k.memory ≡ answer
      → (answer ≡ BusFault → ⊥) → s.target.write_error ≡ false → n ≤ s.tally.disturbed
      → TaskEarnsAnswer answer ahead n b k s
  by_fault : (p : HostStep) → ahead ≡ Unsent → TaskBusError p b k s.target → answer ≡ BusFault
      → s.target.sticky_error ≡ false → s.target.write_error ≡ false → n ≤ s.tally.disturbed
      → TaskEarnsAnswer answer ahead n b k s

-- the flag of a bus error is cleared
pub record EngineErrorCleared (p : HostStep) (n b : ℕ) (k : EngineHand) (s : Port) : Type 0 where
  pub error : EngineMetBusError p b k s.target
  pub sticky : s.target.sticky_error ≡ false
  pub flag : s.target.write_error ≡ false
  pub paid : n ≤ s.tally.disturbed

-- the result of a request
pub data EngineSawResult (job : Job) (seen n : ℕ) (base : EngineBase) (b : ℕ) (k : EngineHand) (s : Port) : Type 0 where
  saw_okay : seen ≡ 1 → EngineDuring job n b k s → EngineSawResult job seen n base b k s
  saw_wait : seen ≡ 2 → EngineWaitAtJob job n b k s → EngineSawResult job seen n base b k s
  saw_fault : seen ≡ 4 → EngineFaultAtJob job n b k s → EngineSawResult job seen n base b k s
  saw_none : (seen == 1) ≡ false → (seen == 2) ≡ false → (seen == 4) ≡ false → EngineLostAck n base b k s
      → EngineSawResult job seen n base b k s

-- what holds after a data phase that was written
abbrev pub EngineDataWasSent : Job → ℕ → ℕ → EngineHand → Port → Type 0
EngineDataWasSent (At p) n b k s = EngineBefore (At (engine_next_place p)) n b k s
EngineDataWasSent (Clear p owed) n b k s = EngineBefore (Check p owed) n b k s
EngineDataWasSent job n b k s = ⊥

-- what holds after the lead, a data phase that was written, or a turnaround
abbrev pub EngineHoldsAfterCue : State → ℕ → ℕ → EngineHand → Port → Type 0
EngineHoldsAfterCue Leading n b k s = EngineBefore (At Identify) n b k s
EngineHoldsAfterCue (Doing job Ask) n b k s = ⊥
EngineHoldsAfterCue (Doing job Data) n b k s = EngineDataWasSent job n b k s
EngineHoldsAfterCue (Doing job Waited) n b k s = EngineWaitAtJob job n b k s
EngineHoldsAfterCue (Doing job Faulted) n b k s = EngineFaultAtJob job n b k s
EngineHoldsAfterCue (Resting outcome) n b k s = ⊥

-- a read's confirming word, or a write's OK
abbrev pub TaskConfirmTook : Task → Option ℕ → ℕ → ℕ → EngineHand → Port → Type 0
TaskConfirmTook (Read at) (Some word) n b k s = EngineResendWord Confirm word n b k s
TaskConfirmTook (Read at) None n b k s = EngineBefore (Resend Confirm) (n + 1) b k s
TaskConfirmTook (BurstRead at) (Some word) n b k s = EngineResendWord Confirm word n b k s
TaskConfirmTook (BurstRead at) None n b k s = EngineBefore (Resend Confirm) (n + 1) b k s
TaskConfirmTook (Write at w) word n b k s = TaskWriteConfirmed n b k s
TaskConfirmTook (BurstWrite at w) word n b k s = ⊥

-- what a word that was read at a place shows, or that it has to be read again
abbrev pub EngineTookAtPlace : HostStep → Option ℕ → ℕ → ℕ → EngineHand → Port → Type 0
EngineTookAtPlace ReadCsw word n b k s = EnginePlaceIsSure Configured n b k s
EngineTookAtPlace Transfer word n b k s = EnginePlaceIsSure Confirm n b k s
EngineTookAtPlace Confirm word n b k s = TaskConfirmTook k.task word n b k s
EngineTookAtPlace Configured None n b k s = EngineBefore (Resend Configured) (n + 1) b k s
EngineTookAtPlace p (Some word) n b k s = EngineTookWordAt p word n b k s
EngineTookAtPlace p None n b k s = EngineBefore (At p) (n + 1) b k s

abbrev pub EngineTookForJob : Job → Option ℕ → ℕ → ℕ → EngineHand → Port → Type 0
EngineTookForJob (At p) word n b k s = EngineTookAtPlace p word n b k s
EngineTookForJob (Resend p) (Some word) n b k s = EngineResendWord p word n b k s
EngineTookForJob (Status p) (Some word) n b k s = EngineReadsFlags word s.target × EngineMetFlag p n b k s
EngineTookForJob (Check p owed) (Some word) n b k s = EngineReadsFlags word s.target × EngineChecksFlags p owed n b k s
EngineTookForJob LastStatus (Some word) n b k s = ⊥
EngineTookForJob (Clear p owed) word n b k s = ⊥
EngineTookForJob job None n b k s = EngineBefore job (n + 1) b k s

-- how many accesses are begun once the request of a state is sent
abbrev pub engine_begun_once_sent : State → Task → ℕ → ℕ
engine_begun_once_sent state task b = max b (engine_job_starts (engine_job state) task)

-- the state after an acknowledgement was seen (IHI 0031, B4, "Acknowledge response")
abbrev pub engine_state_after_ack : Job → ℕ → State
engine_state_after_ack job seen =
    if seen == 1 then Doing job Data
    else if seen == 2 then Doing job Waited
    else if seen == 4 then Doing job Faulted
    else Resting (Stopped Lost)

-- WHAT A STEP OF THE ENGINE KEEPS, from an assumption about a target with these counts at the start and this memory
-- before the access
abbrev pub EngineStepKeeps : (ℕ → ℕ → EngineHand → Port → Type 0) → Engine → Engine → Type 0
EngineStepKeeps Was e f = (base : EngineBase) (m : Bus) (s : Port) → IsTask e.task
    → Was (base.disturbed + e.events) e.begun (hand_of_engine e m) s → TracksEngine base m f s

-- the same, where these flags were read
abbrev pub EngineStepKeepsFlags : Flags → (ℕ → ℕ → EngineHand → Port → Type 0) → Engine → Engine → Type 0
EngineStepKeepsFlags flags Was e f = (base : EngineBase) (m : Bus) (s : Port) → IsTask e.task →
    flags.error ≡ s.target.sticky_error → flags.damaged ≡ s.target.write_error
    → Was (base.disturbed + e.events) e.begun (hand_of_engine e m) s → TracksEngine base m f s

-- WHAT THE CALLS OF AN ENGINE ASSUME about a target with these counts at the start and this memory before the access
-- three bits were seen after the request
abbrev pub EngineHearsAck : ℕ → EngineBase → Bus → Engine → Port → Type 0
EngineHearsAck seen base m e s = EngineSawResult (engine_job e.state) seen (base.disturbed + e.events) base
    (engine_begun_once_sent e.state e.task e.begun) (hand_of_engine e m) s

-- the cue was sent
abbrev pub EngineHasSentCue : EngineBase → Bus → Engine → Port → Type 0
EngineHasSentCue base m e s = IsTask e.task
    × EngineHoldsAfterCue e.state (base.disturbed + e.events) e.begun (hand_of_engine e m) s

-- a data phase was read, with its word if the parity is right
abbrev pub EngineHasReadData : Option ℕ → EngineBase → Bus → Engine → Port → Type 0
EngineHasReadData word base m e s = IsTask e.task
    × EngineTookForJob (engine_job e.state) word (base.disturbed + e.events) e.begun (hand_of_engine e m) s

-- a call keeps what the engine and the port keep together
abbrev pub EngineCallKeeps : (EngineBase → Bus → Engine → Port → Type 0) → Engine → Engine → Type 0
EngineCallKeeps WasTold e f = (base : EngineBase) (m : Bus) (s : Port) → WasTold base m e s
    → TracksEngine base m f s
