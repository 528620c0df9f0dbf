-- Which accesses reach the bus in a run, bus errors among them. The theorem of a run equates buses, and a bus may
-- ignore an access that is a bus error. So this is stated of the accesses themselves.
use Rattle.std.specs.Prelude.{ℕ, ◌≡◌, ◌+◌, ◌<◌, ◌≤◌, ◌^◌, ◌++◌, ◌⊎◌, true, List, [], length, drop, take}
use Rattle.swd_port.specs.declared.access.Access.{Access}
use Rattle.swd_port.specs.declared.access.Answer.{Answer}
use Rattle.swd_port.specs.declared.call.Call.{Call}
use Rattle.swd_port.specs.declared.wire.Due.TheVariants.{Nothing}
use Rattle.swd_port.specs.Choices.{Choice, IsPortChoice}
use Rattle.swd_port.specs.Port.{Port}
use Rattle.swd_port.specs.Asking.{is_pending_write}
use Rattle.swd_port.specs.Reached.{accesses_of_story, accesses_once_completed, story_before}
use Rattle.swd_port.specs.Stories.{FitsStory, port_due_by, port_at}
use Rattle.swd_host.specs.declared.outcome.End.{End}
use Rattle.swd_host.specs.declared.task.Bursts.{Bursts}
use Rattle.swd_host.specs.Again.{resume_own_report}
use Rattle.swd_host.specs.Reports.{HostIsOpen, HostKnowsTarget, HostReport, IsAtRest}
use Rattle.swd_host.specs.Resuming.{resume_begun, resume_report}
use Rattle.swd_steps.specs.declared.run.Run.{Run}
use Rattle.swd_steps.specs.declared.run.Stage.TheVariants.{Ended}
use Rattle.swd_steps.specs.Laws.{stepped_report}
use Rattle.swd_steps.specs.Runs.{SteppedRan, SteppedSetup, stepped_again, stepped_anew, stepped_opened}

-- After the accesses `before` the bus got those of the list that were answered and at most `begun` more, each once and
-- in the order of the list.
pub record SteppedReaches (list : List Access) (told : HostReport) (before after : List Access) : Type 0 where
  pub more : ℕ
  pub few : more ≤ told.begun
  pub made : after ≡ before ++ take (length told.answers + more) list

-- the same now, and once a transfer that is still pending at the port t has taken effect
pub record SteppedReachesBus (list : List Access) (told : HostReport) (before after : List Access) (t : Port) : Type 0
  where
    pub now : SteppedReaches list told before after
    pub later : (c : Choice) → SteppedReaches list told before (after ++ accesses_once_completed c t.target)

-- a run that was made so has ended with this report, after calls that are consistent with a story
abbrev pub SteppedReachesAfter : SteppedSetup → (Port → Type 0) → Type 0
SteppedReachesAfter how Begins = (accesses : List Access) (calls : List Call) (run : Run) (answers : List Answer)
    (end : End) → how.tries < 2 ^ 32 → SteppedRan how accesses calls run answers → run.stage ≡ Ended end
    → (story : ℕ → Port) (past : List Call) → port_due_by past ≡ Nothing → (fits : FitsStory story (calls ++ past))
    → Begins (port_at story past)
    → SteppedReachesBus accesses (stepped_report run answers end)
    (accesses_of_story story past (story_before story calls past fits)) (accesses_of_story story (calls ++ past) fits)
    (port_at story (calls ++ past))

-- In a run over a target at rest the bus gets the answered accesses and at most `begun` more.
abbrev pub SteppedRunReaches : Type 0
SteppedRunReaches = (kind : Bursts) (tries : ℕ) → SteppedReachesAfter (stepped_anew kind tries) IsAtRest

-- The same for a run over a target that is open already.
abbrev pub SteppedOpenReaches : Type 0
SteppedOpenReaches = (kind : Bursts) (tries : ℕ) → SteppedReachesAfter (stepped_opened kind tries) HostIsOpen

-- the accesses by which the transfer that is pending at a port reached the bus
abbrev pub SteppedFirst : Port → List Access → Type 0
SteppedFirst s first = ((is_pending_write s.target.pending ≡ true) × (first ≡ []))
    ⊎ ((choice : Choice) × (first ≡ accesses_once_completed choice s.target))

-- The accesses of a run that resumed: first the transfer that was pending at the port s, if any, then those of the rest
-- of the list. `own` accesses that this run started are unanswered.
pub record SteppedResumeReachesBus (list : List Access) (earlier told : HostReport) (s : Port)
    (before after : List Access) : Type 0 where
  pub own : ℕ
  pub begun : told.begun ≡ resume_begun earlier told own
  -- what the transfer that was pending did: nothing, where it is a write that was given up
  pub first : List Access
  pub came : SteppedFirst s first
  pub reaches : SteppedReaches (drop (length earlier.answers) list) (resume_own_report earlier told own)
      (before ++ first) after

-- In a run that resumes, once a transfer that is still pending has taken effect.
abbrev pub SteppedResumeReaches : Type 0
SteppedResumeReaches = (kind : Bursts) (tries : ℕ) (accesses : List Access) (calls : List Call) (run : Run)
    (answers : List Answer) (end : End) (earlier : HostReport) → tries < 2 ^ 32
    → SteppedRan (stepped_again kind (length earlier.answers) tries) accesses calls run answers
    → run.stage ≡ Ended end → (story : ℕ → Port) (past : List Call) → (fits : FitsStory story (calls ++ past))
    → HostKnowsTarget (port_at story past).target → (c : Choice) → IsPortChoice c
    → SteppedResumeReachesBus accesses earlier
    (resume_report (stepped_report run (earlier.answers ++ answers) end) earlier) (port_at story past)
    (accesses_of_story story past (story_before story calls past fits))
    (accesses_of_story story (calls ++ past) fits ++ accesses_once_completed c (port_at story (calls ++ past)).target)
