-- The theorem of a run whose caller makes the calls.
use Rattle.std.specs.Prelude.{ℕ, ◌≡◌, ◌+◌, ◌*◌, ◌<◌, ◌≤◌, ◌^◌, ◌++◌, Bool, true, false, List, length, drop}
use Rattle.swd_port.specs.declared.access.Access.{Access}
use Rattle.swd_port.specs.declared.access.Answer.{Answer}
use Rattle.swd_port.specs.declared.call.Call.{Call}
use Rattle.swd_port.specs.declared.wire.Due.{Due}
use Rattle.swd_port.specs.declared.wire.Due.TheVariants.{Nothing}
use Rattle.swd_port.specs.Port.{Port}
use Rattle.swd_port.specs.Stories.{FitsStory, port_due_by, port_at}
use Rattle.swd_host.specs.declared.outcome.End.{End}
use Rattle.swd_host.specs.declared.outcome.Outcome.TheVariants.{Stopped}
use Rattle.swd_host.specs.declared.task.Bursts.{Bursts}
use Rattle.swd_host.specs.Again.{ResumesOver}
use Rattle.swd_host.specs.Confirming.{HostConfirms}
use Rattle.swd_host.specs.Fields.{engine_outcome_fields}
use Rattle.swd_host.specs.Progress.{engine_stray_left}
use Rattle.swd_host.specs.Reports.{Closes, RunsWithin, HostReport}
use Rattle.swd_host.specs.OpenLists.{ListCloses, ListsWithin}
use Rattle.swd_host.specs.Resuming.{resume_report}
use Rattle.swd_host.specs.Sent.{HostReportsCalls}
use Rattle.swd_host.specs.Standing.{engine_report}
use Rattle.swd_host.specs.Bursts.{event_requests}
use Rattle.swd_steps.specs.declared.fields.RunFields.{RunFields}
use Rattle.swd_steps.specs.declared.run.Run.{Run}
use Rattle.swd_steps.specs.declared.run.Stage.TheVariants.{Ended}
use Rattle.swd_steps.specs.Fields.{stepped_fields}
use Rattle.swd_steps.specs.Runs.{SteppedSetup, SteppedRan, stepped_anew, stepped_again, stepped_opened}

-- the report of a run that ended: what the run shows, and the answers that came
abbrev pub stepped_report : Run → List Answer → End → HostReport
stepped_report run answers end = engine_report answers run.engine end

-- what a report has whatever came back, by whether the target was open already
abbrev pub SteppedReportCloses : Bool → SteppedSetup → List Access → HostReport → Due → Type 0
SteppedReportCloses false how list report due =
    Closes (engine_stray_left how.again) how.kind list how.tries report due
SteppedReportCloses true how list report due = ListCloses how.kind list how.tries report due

-- whatever came back: what the report states about the list and about the calls that were made
pub record SteppedCloses (how : SteppedSetup) (list : List Access) (calls : List Call) (report : HostReport) : Type 0
  where
    pub closes : SteppedReportCloses how.opened how list report (port_due_by calls)
    pub sent : HostReportsCalls list report calls
    -- without bursts of writes each DRW write is confirmed before the next write of an access port is asked
    pub confirms : HostConfirms how.kind calls

abbrev pub SteppedAlwaysCloses : Type 0
SteppedAlwaysCloses = (how : SteppedSetup) (accesses : List Access) (calls : List Call) (run : Run)
    (answers : List Answer) (end : End) → how.tries < 2 ^ 32 → SteppedRan how accesses calls run answers
    → run.stage ≡ Ended end → SteppedCloses how (drop how.from accesses) calls (stepped_report run answers end)

-- the most calls of a run, whatever comes back: a bound for the opening, one for each access, and one more call
abbrev pub stepped_most_calls : Bool → Bursts → ℕ → ℕ → ℕ
stepped_most_calls again kind tries count =
    2 * (10 + event_requests kind * tries + engine_stray_left again) + 1
    + count * (2 * (6 + event_requests kind * tries) + 1) + 1

abbrev pub SteppedRunEnds : Type 0
SteppedRunEnds = (how : SteppedSetup) (accesses : List Access) (calls : List Call) (run : Run) (answers : List Answer)
    → SteppedRan how accesses calls run answers
    → length calls ≤ stepped_most_calls how.again how.kind how.tries (length (drop how.from accesses))

-- The report of a new run is that of the theorem, from the port before the run to the port after it. This assumes that
-- the calls of the wire, those of the run and those before, are consistent with a story.
abbrev pub SteppedRunFits : Type 0
SteppedRunFits = (kind : Bursts) (tries : ℕ) (accesses : List Access) (calls : List Call) (run : Run)
    (answers : List Answer) (end : End) → tries < 2 ^ 32
    → SteppedRan (stepped_anew kind tries) accesses calls run answers
    → run.stage ≡ Ended end → (story : ℕ → Port) (past : List Call) → port_due_by past ≡ Nothing
    → FitsStory story (calls ++ past)
    → RunsWithin kind accesses tries (stepped_report run answers end) (port_at story past)
    (port_at story (calls ++ past))

-- The same for a run over a target that is open already.
abbrev pub SteppedOpenFits : Type 0
SteppedOpenFits = (kind : Bursts) (tries : ℕ) (accesses : List Access) (calls : List Call) (run : Run)
    (answers : List Answer) (end : End) → tries < 2 ^ 32
    → SteppedRan (stepped_opened kind tries) accesses calls run answers
    → run.stage ≡ Ended end → (story : ℕ → Port) (past : List Call) → port_due_by past ≡ Nothing
    → FitsStory story (calls ++ past)
    → ListsWithin kind accesses tries (stepped_report run answers end) (port_at story past)
    (port_at story (calls ++ past))

-- The same for a run that resumes after an earlier report.
abbrev pub SteppedResumeFits : Type 0
SteppedResumeFits = (kind : Bursts) (tries : ℕ) (accesses : List Access) (calls : List Call) (run : Run)
    (answers : List Answer) (end : End) (earlier : HostReport) → tries < 2 ^ 32
    → SteppedRan (stepped_again kind (length earlier.answers) tries) accesses calls run answers
    → run.stage ≡ Ended end → (story : ℕ → Port) (past : List Call) → FitsStory story (calls ++ past)
    → ResumesOver kind accesses tries earlier
    (resume_report (stepped_report run (earlier.answers ++ answers) end) earlier) (port_at story past)
    (port_at story (calls ++ past))

-- the report in the fields of a run with this end
abbrev pub stepped_report_in_fields : RunFields → List Answer → End → HostReport
stepped_report_in_fields fields answers end =
    record { answers = answers; begun = fields.begun; requests = fields.requests; ended = end }

-- The fields of a run that ended have its end and its report.
pub record SteppedFieldsShow (run : Run) (answers : List Answer) (end : End) : Type 0 where
  pub stop : (stepped_fields run).end ≡ engine_outcome_fields (Stopped end)
  pub told : stepped_report_in_fields (stepped_fields run) answers end ≡ stepped_report run answers end

abbrev pub SteppedRunsAreShown : Type 0
SteppedRunsAreShown = (run : Run) (answers : List Answer) (end : End) → run.stage ≡ Ended end
    → SteppedFieldsShow run answers end
