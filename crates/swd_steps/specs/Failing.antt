-- A run whose line failed inside its cue.
use Rattle.std.specs.Prelude.{◌≡◌, List, []}
use Rattle.swd_port.specs.declared.access.Access.{Access}
use Rattle.swd_port.specs.declared.cue.Cue.{Cue}
use Rattle.swd_port.specs.declared.cue.Cue.TheVariants.{Ask}
use Rattle.swd_host.specs.declared.outcome.End.TheVariants.{Lost}
use Rattle.swd_steps.specs.declared.run.Run.{Run}
use Rattle.swd_steps.specs.declared.run.Stage.TheVariants.{Ended}
use Rattle.swd_steps.specs.Runs.{SteppedExtends}

-- A request is one that nothing acknowledged, since the target may have seen it. No other cue sends a request: the
-- engine is as it was before the cue.
abbrev pub SteppedFailsAt : Cue → Run → Run → Type 0
SteppedFailsAt (Ask q) before after = (accesses : List Access) → SteppedExtends (Ask q) 7 accesses before [] after
SteppedFailsAt cue before after = after.engine ≡ before.engine

-- the run has ended as `Lost`, with the answers of the calls before
pub record SteppedFails (cue : Cue) (before after : Run) : Type 0 where
  pub lost : after.stage ≡ Ended Lost
  pub answered : after.answered ≡ before.answered
  pub engine : SteppedFailsAt cue before after
