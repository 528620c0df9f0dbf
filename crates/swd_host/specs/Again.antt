-- What the report of a call of `resume` states about the bus. It is that of a run over the rest of the list,
-- from the bus that the call before left. And lists of which some accesses were repeated.
use Rattle.std.specs.Prelude.{ℕ, ◌≡◌, ◌≢◌, ◌+◌, ◌-◌, ◌*◌, ◌<◌, ◌≤◌, ◌⊎◌, ◌==◌, List, [], ◌∷◌, ◌++◌, length, take}
use Rattle.std.specs.Prelude.{replicate, drop, if◌then◌else◌}
use Rattle.swd_port.specs.declared.access.Access.{Access}
use Rattle.swd_port.specs.declared.access.Answer.{Answer}
use Rattle.swd_port.specs.declared.call.Call.{Call}
use Rattle.swd_port.specs.declared.wire.Due.{Due}
use Rattle.swd_port.specs.Bus.{Bus}
use Rattle.swd_port.specs.Port.{Port}
use Rattle.swd_port.specs.Becoming.{MayBecome}
use Rattle.swd_host.specs.declared.outcome.End.TheVariants.{All}
use Rattle.swd_host.specs.declared.task.Bursts.{Bursts}
use Rattle.swd_host.specs.Tasks.{resumed_bursts}
use Rattle.swd_host.specs.Bursts.{event_requests}
use Rattle.swd_host.specs.Plain.{memory_after, answers_of}
use Rattle.swd_host.specs.PlainRuns.{IsPlainWithRoom}
use Rattle.swd_host.specs.Reports.{HostReport, Closes, Fits, HostKnowsTarget, HostEndsAt}
use Rattle.swd_host.specs.Resuming.{resume_begun}
use Rattle.swd_host.specs.Sent.{HostReportsCalls}

-- LISTS WITH REPEATED ACCESSES
-- how often a place occurs in a list of places
abbrev pub resume_repeats_of : ℕ → List ℕ → ℕ
resume_repeats_of i [] = 0
resume_repeats_of i (j ∷ js) = (if i == j then 1 else 0) + resume_repeats_of i js

-- the accesses from place i on, each followed by one copy for each occurrence of its place in js
abbrev pub list_with_resume_repeats : List ℕ → ℕ → List Access → List Access
list_with_resume_repeats js i [] = []
list_with_resume_repeats js i (a ∷ list) =
    a ∷ (replicate (resume_repeats_of i js) a ++ list_with_resume_repeats js (i + 1) list)

abbrev pub ResumePlacesBelow : ℕ → List ℕ → Type 0
ResumePlacesBelow n [] = Unit {0}
ResumePlacesBelow n (j ∷ js) = (j < n) × ResumePlacesBelow n js

-- the bus after the first n accesses, of which those at the places js were repeated
pub record IsAfterResumeRepeats (js : List ℕ) (n : ℕ) (list : List Access) (m now : Bus) : Type 0 where
  pub places : ResumePlacesBelow n js
  pub memory : now ≡ memory_after (list_with_resume_repeats js 0 (take n list)) m

-- The answers are those to the first k accesses, done once each. The bus is that after these, or after these and the
-- begun one, where the accesses at the places js were repeated.
pub record AgainAt (k : ℕ) (js : List ℕ) (list : List Access) (m : Bus) (told : HostReport) (now : Bus)
    : Type 0 where
  pub reported : k ≤ length list
  pub answers : told.answers ≡ answers_of (take k list) m
  pub memory : IsAfterResumeRepeats js k list m now ⊎ ((told.begun ≡ 1) × IsAfterResumeRepeats js (k + 1) list m now)
  pub few : told.begun ≤ 1
  -- a begun access is one of the list, in a run that isn't whole
  pub begun : told.begun ≡ 1 → (k < length list) × (told.ended ≢ All)
  pub all : told.ended ≡ All → k ≡ length list

abbrev pub Again : List ℕ → List Access → Bus → HostReport → Bus → Type 0
Again js list m told now = (k : ℕ) × AgainAt k js list m told now

-- the bus is a plain memory, whose log has room for the transfers of the list, for one more, and for one more for each
-- place
abbrev pub LogHasRoomForResume : List ℕ → List Access → Bus → Type 0
LogHasRoomForResume js list m = IsPlainWithRoom (1 + length js) list m

-- RESUMING
-- the answers that came after those of an earlier report
abbrev pub resume_added : HostReport → HostReport → List Answer
resume_added earlier told = drop (length earlier.answers) told.answers

-- the report of this call alone, where `own` accesses that it started are unanswered
abbrev pub resume_own_report : HostReport → HostReport → ℕ → HostReport
resume_own_report earlier told own = record told { answers = resume_added earlier told; begun = own }

-- What holds of a resumed report whatever the other end did. New answers come after the earlier ones, and `Closes`
-- holds of them as of a run over the rest of the list, with five more requests.
pub record ResumeCloses (kind : Bursts) (list : List Access) (tries : ℕ) (earlier told : HostReport) (next : Due) :
    Type 0 where
  pub own : ℕ
  pub kept : told.answers ≡ earlier.answers ++ resume_added earlier told
  pub number : length told.answers ≤ length list
  pub begun : told.begun ≡ resume_begun earlier told own
  pub closes : Closes 5 (resumed_bursts kind) (drop (length earlier.answers) list) tries
      (resume_own_report earlier told own) next

-- `HostReportsCalls` for a call that resumed after an earlier report: over the rest of the list, for its new answers
-- and its own requests.
abbrev pub ResumeReportsCalls : List Access → HostReport → HostReport → List Call → Type 0
ResumeReportsCalls list earlier told calls =
    HostReportsCalls (drop (length earlier.answers) list) (resume_own_report earlier told told.begun) calls

-- The call was a run over the rest of the list that left the bus `now`. It started from a bus that a transfer
-- pending at the port s may have left.
pub record ResumeFitsFrom (list : List Access) (earlier told : HostReport) (own : ℕ) (s : Port) (now : Bus) :
    Type 0 where
  pub before : Bus
  pub comes : MayBecome s before
  pub fits : Fits 1 (drop (length earlier.answers) list) before (resume_own_report earlier told own) now

-- The theorem of `resume`, from the port s and an earlier report to the port t and the new report. It assumes nothing
-- of how many accesses the earlier report left begun, or of what any call before did.
pub record ResumeFits (kind : Bursts) (list : List Access) (tries : ℕ) (earlier told : HostReport) (s t : Port) :
    Type 0 where
  -- how many accesses that this call started are unanswered
  pub own : ℕ
  pub begun : told.begun ≡ resume_begun earlier told own
  -- for each memory that a transfer that is still pending may leave
  pub goes : (now : Bus) → MayBecome t now → ResumeFitsFrom list earlier told own s now
  -- an early end can be resumed again; a whole list leaves no transfer pending
  pub ends : HostEndsAt told.ended tries s t
  pub stops_only : t.tally.lost ≡ s.tally.lost → t.tally.disturbed ≤ s.tally.disturbed + tries → told.ended ≡ All
  -- the requests of this call alone
  pub counted : t.tally.asked ≡ s.tally.asked + told.requests
  pub most : told.requests ≤ 14 + 6 * length list
      + event_requests (resumed_bursts kind) * (t.tally.disturbed - s.tally.disturbed)

-- the same from every known target, whatever is due, set or pending
abbrev pub ResumesOver : Bursts → List Access → ℕ → HostReport → HostReport → Port → Port → Type 0
ResumesOver kind list tries earlier told s t =
    HostKnowsTarget s.target → ResumeFits kind list tries earlier told s t
