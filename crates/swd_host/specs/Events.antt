-- The events: what a host has to retry. The opening, and each access, may meet up to `tries` of them.
use Rattle.std.specs.Prelude.{ℕ, ◌≡◌, ◌+◌, ◌%◌, ◌==◌, ◌&&◌, ◌||◌, Bool, true, false, not, if◌then◌else◌, Option, Some}
use Rattle.std.specs.Prelude.{None, is_some, nat_le}
use Rattle.std.specs.Bool.{beq}
use Rattle.swd_host.specs.declared.flags.Flags.{Flags}
use Rattle.swd_host.specs.declared.outcome.End.TheVariants.{TriesOut, WrongId}
use Rattle.swd_host.specs.declared.outcome.Outcome.TheVariants.{Stopped}
use Rattle.swd_host.specs.declared.task.Task.{Task}
use Rattle.swd_host.specs.declared.request.HostStep.{HostStep}
use Rattle.swd_host.specs.declared.request.HostStep.TheVariants.{Identify, CheckCtrlStat, Powered}
use Rattle.swd_host.specs.declared.request.Job.{Job}
use Rattle.swd_host.specs.declared.request.Job.TheVariants.{At, Resend, Status, LastStatus, Clear, Check}
use Rattle.swd_host.specs.declared.engine.Phase.TheVariants.{Waited}
use Rattle.swd_host.specs.declared.engine.State.{State}
use Rattle.swd_host.specs.declared.engine.State.TheVariants.{Doing, Resting}
use Rattle.swd_host.specs.declared.engine.Engine.{Engine}
use Rattle.swd_host.specs.Flags.{host_flags_in, host_reads_power}
use Rattle.swd_host.specs.Requests.{engine_confirmed, engine_word_is_ignored, engine_job_is_exempt}
use Rattle.swd_host.specs.Engines.{engine_job}

-- flags that are left after the first clearing
abbrev pub opening_finds_flags : Flags → Bool
opening_finds_flags flags = flags.error || flags.damaged

-- the power request was corrupted, or power isn't acknowledged yet
abbrev pub opening_is_unpowered : Flags → Bool → Bool
opening_is_unpowered flags powered = not flags.error && (flags.damaged || not powered)

-- the write that the request at a place confirms was corrupted
abbrev pub engine_write_is_damaged : HostStep → Task → Bool → Flags → Bool
engine_write_is_damaged p task aims flags = not flags.error && flags.damaged && is_some (engine_confirmed p task aims)

-- the ABORT write that clears flags was corrupted itself
abbrev pub engine_clearing_is_damaged : Flags → Flags → Bool
engine_clearing_is_damaged owed now = now.damaged && beq now.error owed.error

-- the flag of a transfer that an earlier run left pending
abbrev pub engine_flag_is_stray : Bool → Flags → Bool
engine_flag_is_stray stray flags = stray && flags.error && not flags.damaged

-- a word that was read at a place with right parity is an event
abbrev pub is_engine_event_at : HostStep → ℕ → Bool → Bool
is_engine_event_at CheckCtrlStat word stray =
    opening_finds_flags (host_flags_in word) && not (engine_flag_is_stray stray (host_flags_in word))
is_engine_event_at Powered word stray = opening_is_unpowered (host_flags_in word) (host_reads_power word)
is_engine_event_at p word stray = false

-- a data phase that was read is an event: a word that isn't ignored had wrong parity, or what the word shows has to be
-- retried
abbrev pub is_engine_event : Job → Option ℕ → Task → Bool → Bool → Bool
is_engine_event (At p) None task aims stray = not (engine_word_is_ignored p task)
is_engine_event (Resend p) None task aims stray = true
is_engine_event (Status p) None task aims stray = true
is_engine_event LastStatus None task aims stray = true
is_engine_event (Clear p owed) None task aims stray = true
is_engine_event (Check p owed) None task aims stray = true
is_engine_event (At p) (Some word) task aims stray =
    not (engine_word_is_ignored p task) && is_engine_event_at p word stray
is_engine_event (Resend p) (Some word) task aims stray = false
is_engine_event (Status p) (Some word) task aims stray = engine_write_is_damaged p task aims (host_flags_in word)
is_engine_event LastStatus (Some word) task aims stray = false
is_engine_event (Clear p owed) (Some word) task aims stray = false
is_engine_event (Check p owed) (Some word) task aims stray = engine_clearing_is_damaged owed (host_flags_in word)

-- a turnaround is an event: after WAIT for a request that may get it
abbrev pub is_engine_wait_event : State → Bool
is_engine_wait_event (Doing job Waited) = not (engine_job_is_exempt job)
is_engine_wait_event state = false

-- a word of DPIDR whose bit 0 is clear
abbrev pub opening_wrong_id : HostStep → ℕ → Option ℕ
opening_wrong_id Identify word = if word % 2 == 1 then None else Some word
opening_wrong_id p word = None

abbrev pub engine_reads_wrong_id : Job → Option ℕ → Option ℕ
engine_reads_wrong_id (At p) (Some word) = opening_wrong_id p word
engine_reads_wrong_id job word = None

-- how an engine stopped
abbrev pub engine_is_tries_out : State → Bool
engine_is_tries_out (Resting (Stopped TriesOut)) = true
engine_is_tries_out state = false

abbrev pub engine_stopped_id : State → Option ℕ
engine_stopped_id (Resting (Stopped (WrongId word))) = Some word
engine_stopped_id state = None

-- What a call does with an event. The count of events rises by one exactly at an event that doesn't exceed the tries.
-- At one that does, and only there, the engine stops because its retries ran out. It stops with a wrong identification
-- exactly where one was read.
pub record EngineMeets (event : Bool) (wrong : Option ℕ) (e f : Engine) : Type 0 where
  pub events : f.events ≡ (if event && not (nat_le e.tries e.events) then e.events + 1 else e.events)
  pub tries_out : engine_is_tries_out f.state ≡ (event && nat_le e.tries e.events)
  pub identified : engine_stopped_id f.state ≡ wrong

abbrev pub EngineMeetsSent : Engine → Engine → Type 0
EngineMeetsSent e f = EngineMeets (is_engine_wait_event e.state) None e f

abbrev pub EngineMeetsRead : Option ℕ → Engine → Engine → Type 0
EngineMeetsRead word e f =
    EngineMeets (is_engine_event (engine_job e.state) word e.task e.aims e.stray)
    (engine_reads_wrong_id (engine_job e.state) word) e f
