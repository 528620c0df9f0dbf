-- An engine after it took the reply to its cue.
use Rattle.std.specs.Prelude.{ℕ, ◌≡◌, ◌+◌, ◌≤◌, true, false, None, is_some}
use Rattle.swd_bits.specs.Phases.{data_phase_word}
use Rattle.swd_port.specs.declared.cue.Cue.{Cue}
use Rattle.swd_port.specs.declared.cue.Cue.TheVariants.{Ask, Take}
use Rattle.swd_host.specs.declared.engine.Engine.{Engine}
use Rattle.swd_host.specs.Early.{AckKeepsResumedOpening, DataKeepsResumedOpening, CueKeepsResumedOpening}
use Rattle.swd_host.specs.Engines.{engine_job, engine_count_more, engine_requests}
use Rattle.swd_host.specs.Events.{EngineMeets, EngineMeetsRead, EngineMeetsSent}
use Rattle.swd_host.specs.Progress.{engine_job_is_of, engine_open_requests}
use Rattle.swd_host.specs.Steps.{EngineGoesTo, EngineRestsWith, engine_ahead_to, engine_after_read, engine_after_cue}
use Rattle.swd_host.specs.Steps.{EngineRestsAtTar, engine_is_at_data, engine_tar_to, engine_word_decides}
use Rattle.swd_host.specs.Tracks.{EngineHasReadData, EngineHasSentCue, EngineHearsAck, EngineCallKeeps}
use Rattle.swd_host.specs.Turns.{EngineSeesAck, engine_lands_from}

-- an engine after it saw the three bits
pub record EngineSawAck (seen : ℕ) (e f : Engine) : Type 0 where
  pub fewer : engine_open_requests f + 1 ≤ engine_open_requests e
  pub requests : engine_requests f ≡ engine_count_more (engine_requests e)
  pub sees : EngineSeesAck seen e f
  pub tracks : EngineCallKeeps (EngineHearsAck seen) e f
  pub early : AckKeepsResumedOpening seen e f
  pub meets : EngineMeets false None e f

-- an engine after the data phase of a read
pub record EngineTookData (bits : ℕ) (e f : Engine) : Type 0 where
  pub lands : engine_lands_from e f
  pub tracks : EngineCallKeeps (EngineHasReadData (data_phase_word bits)) e f
  pub early : DataKeepsResumedOpening (data_phase_word bits) e f
  pub meets : EngineMeetsRead (data_phase_word bits) e f
  pub goes : engine_job_is_of false (engine_job e.state) ≡ true
      → EngineGoesTo (engine_after_read (engine_job e.state) (data_phase_word bits) e.task e.aims e.bursts) f.state
  pub rests : EngineRestsWith (engine_ahead_to (engine_job e.state) e.task) f.state f.ahead
  -- after a word of right parity that decides nothing, the engine never stops
  pub on : is_some (data_phase_word bits) ≡ true → engine_word_decides (engine_job e.state) ≡ false
      → f.state ≡ engine_after_read (engine_job e.state) (data_phase_word bits) e.task e.aims e.bursts
  pub tar : is_some (data_phase_word bits) ≡ true → engine_word_decides (engine_job e.state) ≡ false
      → EngineRestsAtTar (engine_tar_to (engine_job e.state) e.task) f.state f.tar

-- an engine after a lead, the data phase of a write or a turnaround
pub record EngineSentCue (e f : Engine) : Type 0 where
  pub lands : engine_lands_from e f
  pub tracks : EngineCallKeeps EngineHasSentCue e f
  pub early : CueKeepsResumedOpening e f
  pub meets : EngineMeetsSent e f
  pub goes : EngineGoesTo (engine_after_cue e.state e.task) f.state
  -- after a data phase that was sent, the engine never stops
  pub on : engine_is_at_data e.state ≡ true → f.state ≡ engine_after_cue e.state e.task

-- an engine after this reply to this cue
abbrev pub EngineTookReply : Cue → ℕ → Engine → Engine → Type 0
EngineTookReply (Ask request) seen e f = EngineSawAck seen e f
EngineTookReply Take bits e f = EngineTookData bits e f
EngineTookReply cue reply e f = EngineSentCue e f
