-- The invariant of a decoder of captures.
use Rattle.std.specs.Prelude.{ℕ, ◌+◌, ◌^◌, ◌<◌, ◌≤◌, length}
use Rattle.swd_resync.specs.declared.stage.RemovalStage.{RemovalStage}
use Rattle.swd_resync.specs.declared.held.HeldBits.{HeldBits}
use Rattle.swd_resync.specs.Holding.{resync_held, resync_behind_run}
use Rattle.swd_resync.specs.Stages.{resync_stage_counted}

-- the counted and held bits are some of those that it was fed
pub record IsResyncFed (stage : RemovalStage) (held : HeldBits) (fed : ℕ) : Type 0 where
  pub counts : resync_stage_counted stage + length (resync_held held) ≤ fed
  pub small : fed < 2 ^ 64
  pub room : resync_behind_run held ≤ 63
