-- A report that is written while its run goes on.
use Rattle.std.specs.Prelude.{ℕ, ◌≡◌, ◌≤◌, List, [], ◌∷◌, ◌++◌, length, Option, None}
use Rattle.swd_io.specs.Blocks.{BlockBufferSends}
use Rattle.swd_port.specs.declared.access.Answer.{Answer}
use Rattle.swd_run.specs.declared.going_on.Stop.{Stop}
use Rattle.swd_run.specs.declared.reporting.Reporting.{Reporting}
use Rattle.swd_run.specs.Reports.{report_lines_from}

-- at each of these places at most so many answers had come
abbrev pub AreResumesWithin : ℕ → List Stop → Type 0
AreResumesWithin answered [] = Unit {0}
AreResumesWithin answered (stop ∷ stops) = (stop.answered ≤ answered) × AreResumesWithin answered stops

module _ {W K G : Type 0} (contents : W → Option (List ℕ)) (taken : K → List Answer) where
  -- A writer that began with `start` was handed the lines of the answers so far, with a line for each of these places
  -- where the run was resumed. Of these bytes it lacks those that are buffered, or it failed.
  pub record Has (start : Option (List ℕ)) (stops : List Stop) (state : Reporting W K G) : Type 0 where
    pub few : length (taken state.answers.now) ≤ length state.accesses.now
    pub within : AreResumesWithin (length (taken state.answers.now)) stops
    pub sends : BlockBufferSends contents start state.block.now
        (report_lines_from None 0 stops state.accesses.now (taken state.answers.now))

  -- Later, after these further places, it has the lines of the answers and places until then, for the same block,
  -- writer and sink.
  pub record Goes (old : Reporting W K G) (stops : List Stop) (new : Reporting W K G) : Type 0 where
    pub block : new.block.ghost_name ≡ old.block.ghost_name
    pub writer : new.block.now.writer.ghost_name ≡ old.block.now.writer.ghost_name
    pub answers : new.answers.ghost_name ≡ old.answers.ghost_name
    pub accesses : new.accesses.now ≡ old.accesses.now
    pub has : (start : Option (List ℕ)) (before : List Stop) → Has start before old → Has start (before ++ stops) new
