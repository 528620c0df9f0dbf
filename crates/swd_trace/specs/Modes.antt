-- The modes as numbers, and runs of equal bits.
use Rattle.std.specs.Prelude.{ℕ, ◌≡◌, ◌≢◌, ◌+◌, ◌%◌, ◌<◌, ◌≤◌, ◌==◌, Bool, false, if◌then◌else◌}
use Rattle.swd_trace.specs.declared.mode.Mode.{Mode}
use Rattle.swd_trace.specs.declared.mode.Mode.TheVariants.{Synced, AfterReset, AfterSwitch, Lost}

abbrev pub decoder_mode_number : Mode → ℕ
decoder_mode_number Synced = 1
decoder_mode_number AfterReset = 2
decoder_mode_number AfterSwitch = 3
decoder_mode_number Lost = 4

-- the mode with this number; any other number gives some mode
abbrev pub decoder_mode_at : ℕ → Mode
decoder_mode_at n = if n == 1 then Synced else if n == 2 then AfterReset else if n == 3 then AfterSwitch else Lost

-- `run` times `one`, and at most one bit after it, which ends the run; a run of zeros needs mode synced
pub record IsDecoderRun (mode : Mode) (one : Bool) (run len bits fed : ℕ) : Type 0 where
  pub counted : run + len ≤ fed
  pub few : len ≤ 1
  pub ends : 0 < len → one ≢ (bits % 2 == 1)
  pub idle : one ≡ false → mode ≡ Synced
