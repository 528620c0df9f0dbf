-- The start of a resumed opening: what is known of the port from the line reset on, whatever flags are set. It holds
-- until SELECT is written and no transfer is pending any more. After that the invariant is that of a run over one
-- memory.
use Rattle.std.specs.Prelude.{ℕ, ◌≡◌, ◌≢◌, ◌+◌, ◌%◌, ◌<◌, ◌≤◌, ◌⊎◌, ◌==◌, Bool, true, false, Option, Some, None}
use Rattle.swd_port.specs.Bus.{Bus}
use Rattle.swd_port.specs.Port.{Port, Target}
use Rattle.swd_port.specs.declared.register.Register.TheVariants.{AbortWrite, SelectWrite}
use Rattle.swd_port.specs.declared.state.Reset.TheVariants.{Unreset, Live}
use Rattle.swd_port.specs.Becoming.{MayBecome}
use Rattle.swd_host.specs.declared.flags.Flags.{Flags}
use Rattle.swd_host.specs.declared.outcome.End.{End}
use Rattle.swd_host.specs.declared.outcome.End.TheVariants.{Lost, TriesOut}
use Rattle.swd_host.specs.declared.outcome.Outcome.TheVariants.{Stopped}
use Rattle.swd_host.specs.declared.request.HostStep.TheVariants.{Identify, WriteAbort, CheckCtrlStat, Select}
use Rattle.swd_host.specs.declared.request.Job.{Job}
use Rattle.swd_host.specs.declared.request.Job.TheVariants.{At, Status, Clear, Check}
use Rattle.swd_host.specs.declared.engine.Phase.TheVariants.{Ask, Data, Waited, Faulted}
use Rattle.swd_host.specs.declared.engine.State.{State}
use Rattle.swd_host.specs.declared.engine.State.TheVariants.{Leading, Doing, Resting}
use Rattle.swd_host.specs.declared.engine.Engine.{Engine}
use Rattle.swd_host.specs.Engines.{engine_job}
use Rattle.swd_host.specs.Flags.{host_flags_in}
use Rattle.swd_host.specs.Tracks.{EngineBase, EngineTargetCalm, EngineReads, EngineWrites, EngineFollowsPort, IsTask}
use Rattle.swd_port.specs.Registers.{port_select_zero}

-- Each memory that the pending transfer may leave now, it might have left at the start. If no transfer was pending
-- then, no transfer is pending now.
pub record ResumeComesFrom (start s : Port) : Type 0 where
  pub comes : (m : Bus) → MayBecome s m → MayBecome start m
  pub rests : start.target.pending ≡ None → s.target.pending ≡ None

-- THE FLAG OF A TRANSFER THAT WAS LEFT PENDING, where the engine may still meet it (`stray`)

-- it may still be met, or no transfer is pending
abbrev pub ResumeAwaitsStray : Bool → Target → Type 0
ResumeAwaitsStray stray s = (stray ≡ true) ⊎ (s.pending ≡ None)

-- STICKYERR is clear and stays clear, or the transfer may still set it, or the transfer has set it, which may still be
-- met
pub data ResumeStrayFlag (stray : Bool) (s : Target) : Type 0 where
  none_left : s.pending ≡ None → s.sticky_error ≡ false → ResumeStrayFlag stray s
  to_come : stray ≡ true → s.sticky_error ≡ false → ResumeStrayFlag stray s
  has_come : stray ≡ true → s.pending ≡ None → s.sticky_error ≡ true → ResumeStrayFlag stray s

-- flags that were read while the transfer may have been pending: STICKYERR may have been set since
pub record ResumeGlimpsedFlags (flags : Flags) (stray : Bool) (s : Target) : Type 0 where
  pub damaged : flags.damaged ≡ s.write_error
  pub error : flags.error ≡ true → s.write_error ≡ false → (s.pending ≡ None) × (stray ≡ true)

-- flags that were read while no transfer was pending
pub record ResumeReadFlags (flags : Flags) (s : Target) : Type 0 where
  pub error : flags.error ≡ s.sticky_error
  pub damaged : flags.damaged ≡ s.write_error

-- THE PORT, as the host knows it before each request of the opening

-- a target in any state of a transaction, with SELECT 0; n disturbances were met as events
pub record ResumedOpeningAnywhere (n : ℕ) (stray : Bool) (start s : Port) : Type 0 where
  pub select : s.target.select ≡ port_select_zero
  pub odd : s.target.identification % 2 ≡ 1
  pub comes : ResumeComesFrom start s
  pub awaited : ResumeAwaitsStray stray s.target
  pub paid : n ≤ s.tally.disturbed

-- after the line reset, whatever the flags
pub record ResumedAfterReset (n : ℕ) (stray : Bool) (start s : Port) : Type 0 where
  pub any : ResumedOpeningAnywhere n stray start s
  pub reset : s.target.reset ≢ Unreset

-- DPIDR was read, whatever the flags
pub record ResumedAwake (n : ℕ) (stray : Bool) (start s : Port) : Type 0 where
  pub any : ResumedOpeningAnywhere n stray start s
  pub live : s.target.reset ≡ Live

-- ABORT was written: WDATAERR is clear, and so is STICKYERR unless the transfer set it after that; or ABORT's data was
-- corrupted
pub data ResumedAbortWritten (n : ℕ) (stray : Bool) (start s : Port) : Type 0 where
  clean : ResumedAwake n stray start s → s.target.write_error ≡ false → ResumeStrayFlag stray s.target
      → ResumedAbortWritten n stray start s
  hurt : ResumedAwake (n + 1) stray start s → s.target.write_error ≡ true → ResumedAbortWritten n stray start s

-- CTRL/STAT showed that
pub record ResumedCtrlStatChecked (n : ℕ) (stray : Bool) (start s : Port) : Type 0 where
  pub woken : ResumedAwake n stray start s
  pub flag : s.target.write_error ≡ false
  pub quiet : ResumeStrayFlag stray s.target

-- the bus error of the transfer was met at the write of SELECT
pub record ResumedMetBusError (n : ℕ) (stray : Bool) (start s : Port) : Type 0 where
  pub woken : ResumedAwake n stray start s
  pub flag : s.target.write_error ≡ false
  pub awaited : stray ≡ true
  pub pending : s.target.pending ≡ None
  pub sticky : s.target.sticky_error ≡ true

-- it has to be cleared
pub record ResumedFlagsOwed (owed : Flags) (n : ℕ) (stray : Bool) (start s : Port) : Type 0 where
  pub woken : ResumedAwake n stray start s
  pub error : owed.error ≡ true
  pub pending : s.target.pending ≡ None
  pub sticky : s.target.sticky_error ≡ true
  pub flag : s.target.write_error ≡ owed.damaged

-- ABORT was written: no flag is left, or both are set, since its data was corrupted
pub data ResumedFlagsCleared (owed : Flags) (n : ℕ) (stray : Bool) (start s : Port) : Type 0 where
  gone : ResumedAwake n stray start s → owed.error ≡ true → s.target.pending ≡ None → s.target.sticky_error ≡ false
      → s.target.write_error ≡ false → ResumedFlagsCleared owed n stray start s
  still : ResumedAwake (n + 1) stray start s → owed.error ≡ true → s.target.pending ≡ None
      → s.target.sticky_error ≡ true → s.target.write_error ≡ true → ResumedFlagsCleared owed n stray start s

-- what holds before a request; no other requests are sent that early
abbrev pub ResumedBefore : Job → ℕ → Bool → Port → Port → Type 0
ResumedBefore (At Identify) n stray start s = ResumedAfterReset n stray start s
ResumedBefore (At WriteAbort) n stray start s = ResumedAwake n stray start s
ResumedBefore (At CheckCtrlStat) n stray start s = ResumedAbortWritten n stray start s
ResumedBefore (At Select) n stray start s = ResumedCtrlStatChecked n stray start s
ResumedBefore (Status Select) n stray start s = ResumedMetBusError n stray start s
ResumedBefore (Clear Select owed) n stray start s = ResumedFlagsOwed owed n stray start s
ResumedBefore (Check Select owed) n stray start s = ResumedFlagsCleared owed n stray start s
ResumedBefore job n stray start s = ⊥

-- SELECT's write was answered OK: no transfer is pending any more, and the bus is m
pub record ResumedSelectSettled (n : ℕ) (m : Bus) (s : Port) : Type 0 where
  pub calm : EngineTargetCalm m s.target
  pub flag : s.target.write_error ≡ false
  pub paid : n ≤ s.tally.disturbed

pub record ResumedOpeningIsOver (n : ℕ) (start s : Port) : Type 0 where
  pub memory : Bus
  pub comes : MayBecome start memory
  pub writes : EngineWrites SelectWrite n (λ c. ResumedSelectSettled c memory s) s

-- what holds before a data phase
abbrev pub ResumedDuring : Job → ℕ → Bool → Port → Port → Type 0
ResumedDuring (At Identify) n stray start s =
    EngineReads s.target.identification n (λ c. ResumedAwake c stray start s) s
ResumedDuring (At WriteAbort) n stray start s = EngineWrites AbortWrite n (λ c. ResumedAwake c stray start s) s
ResumedDuring (At CheckCtrlStat) n stray start s =
    (word : ℕ) × ResumeGlimpsedFlags (host_flags_in word) stray s.target
    × EngineReads word n (λ c. ResumedAbortWritten c stray start s) s
ResumedDuring (At Select) n stray start s = ResumedOpeningIsOver n start s
ResumedDuring (Status Select) n stray start s =
    (word : ℕ) × ResumeReadFlags (host_flags_in word) s.target
    × EngineReads word n (λ c. ResumedMetBusError c stray start s) s
ResumedDuring (Clear Select owed) n stray start s =
    EngineWrites AbortWrite n (λ c. ResumedFlagsOwed owed c stray start s) s
ResumedDuring (Check Select owed) n stray start s =
    (word : ℕ) × ResumeReadFlags (host_flags_in word) s.target
    × EngineReads word n (λ c. ResumedFlagsCleared owed c stray start s) s
ResumedDuring job n stray start s = ⊥

-- only SELECT's write may be answered WAIT or FAULT
abbrev pub ResumedOpeningWaits : Job → ℕ → Bool → Port → Port → Type 0
ResumedOpeningWaits (At Select) n stray start s = ResumedCtrlStatChecked (n + 1) stray start s
ResumedOpeningWaits job n stray start s = ⊥

abbrev pub ResumedOpeningFaulted : Job → ℕ → Bool → Port → Port → Type 0
ResumedOpeningFaulted (At Select) n stray start s = ResumedMetBusError n stray start s
ResumedOpeningFaulted job n stray start s = ⊥

-- no acknowledgement was seen
pub record ResumedOpeningLost (n : ℕ) (base : EngineBase) (start s : Port) : Type 0 where
  pub comes : ResumeComesFrom start s
  pub more : base.lost < s.tally.lost
  pub paid : n ≤ s.tally.disturbed
  pub select : s.target.select ≡ port_select_zero

abbrev pub ResumedOpeningStopped : End → ℕ → ℕ → EngineBase → Port → Port → Type 0
ResumedOpeningStopped Lost n tries base start s = ResumedOpeningLost n base start s
ResumedOpeningStopped TriesOut n tries base start s =
    ResumeComesFrom start s × (base.disturbed + tries < s.tally.disturbed) × (s.target.select ≡ port_select_zero)
ResumedOpeningStopped end n tries base start s = ⊥

abbrev pub ResumedOpening : State → ℕ → ℕ → EngineBase → Bool → Port → Port → Type 0
ResumedOpening Leading n tries base stray start s = ResumedOpeningAnywhere n stray start s
ResumedOpening (Doing job Ask) n tries base stray start s = ResumedBefore job n stray start s
ResumedOpening (Doing job Data) n tries base stray start s = ResumedDuring job n stray start s
ResumedOpening (Doing job Waited) n tries base stray start s = ResumedOpeningWaits job n stray start s
ResumedOpening (Doing job Faulted) n tries base stray start s = ResumedOpeningFaulted job n stray start s
ResumedOpening (Resting (Stopped end)) n tries base stray start s = ResumedOpeningStopped end n tries base start s
ResumedOpening (Resting outcome) n tries base stray start s = ⊥

-- what the engine's state implies about the port, from the counts and the port at the start
abbrev pub EngineIsInResumedOpening : EngineBase → Port → Engine → Port → Type 0
EngineIsInResumedOpening base start e s = ResumedOpening e.state (base.disturbed + e.events) e.tries base e.stray start
    s

-- an engine that resumes: it is early, or follows one of the memories that the port at the start may have become
pub data EngineResumes (base : EngineBase) (start : Port) (e : Engine) (s : Port) : Type 0 where
  early : IsTask e.task → base.lost ≤ s.tally.lost → EngineIsInResumedOpening base start e s
      → EngineResumes base start e s
  over : (m : Bus) → MayBecome start m → EngineFollowsPort base m e s → EngineResumes base start e s

-- WHAT A CALL OF THE ENGINE ASSUMES
-- the result of a request
pub data ResumedOpeningSawAck (job : Job) (seen n : ℕ) (base : EngineBase) (stray : Bool) (start s : Port) : Type 0
  where
    early_okay : seen ≡ 1 → ResumedDuring job n stray start s → ResumedOpeningSawAck job seen n base stray start s
    early_wait : seen ≡ 2 → ResumedOpeningWaits job n stray start s → ResumedOpeningSawAck job seen n base stray start s
    early_fault : seen ≡ 4 → ResumedOpeningFaulted job n stray start s
        → ResumedOpeningSawAck job seen n base stray start s
    early_none : (seen == 1) ≡ false → (seen == 2) ≡ false → (seen == 4) ≡ false → ResumedOpeningLost n base start s
        → ResumedOpeningSawAck job seen n base stray start s

-- what holds after a data phase that was written
abbrev pub ResumedOpeningSentData : Job → ℕ → Bool → Port → Port → Type 0
ResumedOpeningSentData (At WriteAbort) n stray start s = ResumedAbortWritten n stray start s
ResumedOpeningSentData (Clear Select owed) n stray start s = ResumedFlagsCleared owed n stray start s
ResumedOpeningSentData job n stray start s = ⊥

-- what holds after the lead, a data phase that was written, or a turnaround
abbrev pub ResumedOpeningAfterCue : State → ℕ → Bool → Port → Port → Type 0
ResumedOpeningAfterCue Leading n stray start s = ResumedAfterReset n stray start s
ResumedOpeningAfterCue (Doing job Data) n stray start s = ResumedOpeningSentData job n stray start s
ResumedOpeningAfterCue (Doing job Waited) n stray start s = ResumedOpeningWaits job n stray start s
ResumedOpeningAfterCue (Doing job Faulted) n stray start s = ResumedOpeningFaulted job n stray start s
ResumedOpeningAfterCue state n stray start s = ⊥

-- what a word that was read early shows
abbrev pub ResumedOpeningReadWord : Job → ℕ → ℕ → Bool → Port → Port → Type 0
ResumedOpeningReadWord (At Identify) word n stray start s = ResumedAwake n stray start s × (word % 2 ≡ 1)
ResumedOpeningReadWord (At CheckCtrlStat) word n stray start s =
    ResumeGlimpsedFlags (host_flags_in word) stray s.target × ResumedAbortWritten n stray start s
ResumedOpeningReadWord (Status Select) word n stray start s = ResumeReadFlags (host_flags_in word) s.target
    × ResumedMetBusError n stray start s
ResumedOpeningReadWord (Check Select owed) word n stray start s = ResumeReadFlags (host_flags_in word) s.target
    × ResumedFlagsCleared owed n stray start s
ResumedOpeningReadWord job word n stray start s = ⊥

-- the same where the word has to be read again; no other word is read early
abbrev pub ResumedOpeningRereads : Job → ℕ → Bool → Port → Port → Type 0
ResumedOpeningRereads (At Identify) n stray start s = ResumedAfterReset (n + 1) stray start s
ResumedOpeningRereads (At CheckCtrlStat) n stray start s = ResumedAbortWritten (n + 1) stray start s
ResumedOpeningRereads (Status Select) n stray start s = ResumedMetBusError (n + 1) stray start s
ResumedOpeningRereads (Check Select owed) n stray start s = ResumedFlagsCleared owed (n + 1) stray start s
ResumedOpeningRereads job n stray start s = ⊥

abbrev pub ResumedOpeningTookData : Job → Option ℕ → ℕ → Bool → Port → Port → Type 0
ResumedOpeningTookData job (Some word) n stray start s = ResumedOpeningReadWord job word n stray start s
ResumedOpeningTookData job None n stray start s = ResumedOpeningRereads job n stray start s

-- WHAT A STEP OF THE ENGINE KEEPS, from an assumption about these counts and this port at the start
abbrev pub StepKeepsResumedOpening : (ℕ → Bool → Port → Port → Type 0) → Engine → Engine → Type 0
StepKeepsResumedOpening Was e f = (base : EngineBase) (start s : Port) → Was (base.disturbed + e.events) e.stray start s
    → EngineIsInResumedOpening base start f s

-- the same, where these flags were read
abbrev pub FlagsKeepResumedOpening : Flags → (ℕ → Bool → Port → Port → Type 0) → Engine → Engine → Type 0
FlagsKeepResumedOpening flags Was e f = (base : EngineBase) (start s : Port) → ResumeReadFlags flags s.target
    → Was (base.disturbed + e.events) e.stray start s → EngineIsInResumedOpening base start f s

abbrev pub GlimpseKeepsResumedOpening : Flags → (ℕ → Bool → Port → Port → Type 0) → Engine → Engine → Type 0
GlimpseKeepsResumedOpening flags Was e f = (base : EngineBase) (start s : Port)
    → ResumeGlimpsedFlags flags e.stray s.target
    → Was (base.disturbed + e.events) e.stray start s → EngineIsInResumedOpening base start f s

-- three bits were seen after the request
abbrev pub AckKeepsResumedOpening : ℕ → Engine → Engine → Type 0
AckKeepsResumedOpening seen e f = (base : EngineBase) (start s : Port)
    → ResumedOpeningSawAck (engine_job e.state) seen (base.disturbed + e.events) base e.stray start s
    → EngineIsInResumedOpening base start f s

-- the cue was sent
abbrev pub CueKeepsResumedOpening : Engine → Engine → Type 0
CueKeepsResumedOpening e f = StepKeepsResumedOpening (ResumedOpeningAfterCue e.state) e f

-- a data phase was read, with its word if the parity is right
abbrev pub DataKeepsResumedOpening : Option ℕ → Engine → Engine → Type 0
DataKeepsResumedOpening word e f = StepKeepsResumedOpening (ResumedOpeningTookData (engine_job e.state) word) e f
