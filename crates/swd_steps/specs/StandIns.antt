-- The theorem of a run some of whose calls were told with other bits than arrived: damaged words, whose bits the caller
-- doesn't know.
use Rattle.std.specs.Prelude.{ℕ, ◌≡◌, ◌<◌, ◌^◌, ◌++◌, List}
use Rattle.swd_port.specs.declared.access.Access.{Access}
use Rattle.swd_port.specs.declared.access.Answer.{Answer}
use Rattle.swd_port.specs.declared.call.Call.{Call}
use Rattle.swd_port.specs.declared.wire.Due.TheVariants.{Nothing}
use Rattle.swd_port.specs.Port.{Port}
use Rattle.swd_port.specs.Stories.{FitsStory, port_due_by, port_at}
use Rattle.swd_host.specs.declared.outcome.End.{End}
use Rattle.swd_host.specs.declared.task.Bursts.{Bursts}
use Rattle.swd_host.specs.Reports.{RunsWithin}
use Rattle.swd_host.specs.StandIns.{AreHostStandIns}
use Rattle.swd_steps.specs.declared.run.Run.{Run}
use Rattle.swd_steps.specs.declared.run.Stage.TheVariants.{Ended}
use Rattle.swd_steps.specs.Laws.{stepped_report}
use Rattle.swd_steps.specs.Runs.{SteppedRan, SteppedSetup, stepped_anew}

-- A run that came where it is by some calls could have come there by those that stand in for them.
abbrev pub SteppedRanByStandIns : Type 0
SteppedRanByStandIns = (how : SteppedSetup) (accesses : List Access) (calls others : List Call) (run : Run)
    (answers : List Answer) → AreHostStandIns calls others → SteppedRan how accesses calls run answers
    → SteppedRan how accesses others run answers

-- The report of a new run is that of the theorem, where the calls with the bits that arrived are consistent with a
-- story: those that the run was told stand in for them.
abbrev pub SteppedRunFitsByStandIns : Type 0
SteppedRunFitsByStandIns = (kind : Bursts) (tries : ℕ) (accesses : List Access) (told made : List Call) (run : Run)
    (answers : List Answer) (end : End) → tries < 2 ^ 32 → AreHostStandIns told made
    → SteppedRan (stepped_anew kind tries) accesses told run answers
    → run.stage ≡ Ended end → (story : ℕ → Port) (past : List Call) → port_due_by past ≡ Nothing
    → FitsStory story (made ++ past)
    → RunsWithin kind accesses tries (stepped_report run answers end) (port_at story past)
    (port_at story (made ++ past))
