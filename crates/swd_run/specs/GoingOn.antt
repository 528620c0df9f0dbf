-- A run that was resumed after lost acknowledgements: its calls, and what their reports state together.
use Rattle.std.specs.Prelude.{ℕ, ◌≡◌, ◌≢◌, ◌+◌, ◌-◌, ◌≤◌, Bool, true, false, List, [], ◌∷◌, ◌++◌, length, take, min}
use Rattle.std.specs.Prelude.{max, if◌then◌else◌}
use Rattle.swd_port.specs.declared.access.Access.{Access}
use Rattle.swd_port.specs.declared.call.Call.{Call}
use Rattle.swd_port.specs.declared.wire.Wire.{Ghosts}
use Rattle.swd_port.specs.Bus.{Bus}
use Rattle.swd_host.specs.declared.outcome.End.{End}
use Rattle.swd_host.specs.declared.outcome.End.TheVariants.{All, Lost}
use Rattle.swd_port.specs.PlainBus.{IsPlain, plain_words_of}
use Rattle.swd_host.specs.Plain.{memory_after, answers_of}
use Rattle.swd_host.specs.PlainRuns.{IsPlainWithRoom}
use Rattle.swd_host.specs.declared.task.Bursts.{Bursts}
use Rattle.swd_host.specs.declared.task.Bursts.TheVariants.{Writes, Reads}
use Rattle.swd_host.specs.Tasks.{resumed_bursts}
use Rattle.swd_host.specs.Bursts.{bursts_limit}
use Rattle.swd_host.specs.Reports.{HostReport, host_most_requests}
use Rattle.swd_host.specs.Again.{Again, ResumeCloses, ResumeReportsCalls, ResumesOver}
use Rattle.swd_host.specs.Resuming.{host_end_is_all}
use Rattle.swd_host.specs.Chains.{ResumeChain, AreBlockReads}
use Rattle.swd_host.specs.Sent.{HostCalls, HostReportsCalls}
use Rattle.swd_run.specs.declared.going_on.Stop.{Stop}
use Rattle.swd_run.specs.Starts.{ScriptCallCloses, ScriptCallFits, script_most_requests, script_opening_requests}

-- the place where a call with this report ended
abbrev pub script_stop_of : HostReport → Stop
script_stop_of told = record { answered = length told.answers; begun = told.begun; requests = told.requests }

abbrev pub script_stops_of : List HostReport → List Stop
script_stops_of [] = []
script_stops_of (told ∷ calls) = script_stop_of told ∷ script_stops_of calls

-- the number of requests of the calls before the last one
abbrev pub script_requests_before : List Stop → ℕ
script_requests_before [] = 0
script_requests_before (stop ∷ stops) = stop.requests + script_requests_before stops

-- the last call's report, with the requests of all calls
abbrev pub script_calls_in_all : List Stop → HostReport → HostReport
script_calls_in_all stops told = record told { requests = script_requests_before stops + told.requests }

-- How a call is resumed: as it was made, but the rest of a block, which has no writes, as a list with bursts of writes.
abbrev pub script_resumed_bursts : Bursts → Bursts
script_resumed_bursts Reads = Writes
script_resumed_bursts kind = kind

-- THE CALLS A call over a wire from s to t, and the calls of `resume` after it, each after a lost acknowledgement.
-- `opened` says that the target was open at s; else the call opens it. The other arguments are the places where it was
-- resumed, and the report of the last call. Whatever came back, `ScriptCallCloses` or `ResumeCloses` holds of each
-- call, and the calls made of the wire meanwhile are those that its report describes. Where the wire is lawful, the
-- theorem of the host holds too.
pub data ScriptCallsFrom {W : Type 0} (wire : Ghosts W) (opened : Bool) (kind : Bursts) (list : List Access)
    (tries : ℕ) (s : W) : List Stop → HostReport → W → Type 0 where
  ran : {told : HostReport} {t : W} → wire.plan t ≡ wire.plan s
      → ScriptCallCloses opened kind list tries told (wire.port t).link.due
      → (wire.lawful t → wire.lawful s × ScriptCallFits opened kind list tries told (wire.port s) (wire.port t))
      → HostCalls wire.notes (HostReportsCalls list told) s t
      → ScriptCallsFrom wire opened kind list tries s [] told t
  resumed : {stops : List Stop} {earlier told : HostReport} {t u : W}
      → ScriptCallsFrom wire opened kind list tries s stops earlier t
      → earlier.ended ≡ Lost → wire.plan u ≡ wire.plan s
      → ResumeCloses (script_resumed_bursts kind) list tries earlier told (wire.port u).link.due
      → (wire.lawful u → wire.lawful t
      × ResumesOver (script_resumed_bursts kind) list tries earlier told (wire.port t) (wire.port u))
      → HostCalls wire.notes (ResumeReportsCalls list earlier told) t u
      → ScriptCallsFrom wire opened kind list tries s (stops ++ script_stop_of earlier ∷ []) told u

-- the same where the first of them opens the target
abbrev pub ScriptCalls : {W : Type 0} → Ghosts W → Bursts → List Access → ℕ → W → List Stop → HostReport → W → Type 0
ScriptCalls wire kind list tries s stops told t = ScriptCallsFrom wire false kind list tries s stops told t

-- These calls, the last one first, are those of a run over a list and of each `resume` after it, as their reports
-- describe: the requests that each counts, and the data phases of the accesses that it answers or leaves begun. The
-- other arguments are the places where it was resumed, and the report of the last call.
pub data ScriptReportsCalls (list : List Access) : List Stop → HostReport → List Call → Type 0 where
  told_once : {told : HostReport} {calls : List Call} → HostReportsCalls list told calls
      → ScriptReportsCalls list [] told calls
  told_again : {stops : List Stop} {earlier told : HostReport} {before calls : List Call}
      → ScriptReportsCalls list stops earlier before → ResumeReportsCalls list earlier told calls
      → ScriptReportsCalls list (stops ++ script_stop_of earlier ∷ []) told (calls ++ before)

-- WHAT THEY REPORT
-- One call of a run over n accesses. The calls before it gave `from` answers, and left `left` accesses
-- begun. After it there are `answered` answers in all, and `begun` accesses begun. It sent `requests` requests: before
-- its list at least `opening`, and with so many accesses at most what `most` gives.
pub record IsScriptCall (opening : ℕ) (most : ℕ → ℕ) (limit n from left answered begun requests : ℕ) (ended : End) :
    Type 0 where
  pub grows : from ≤ answered
  pub number : answered ≤ n
  pub whole : ended ≡ All → answered ≡ n
  -- how many unanswered accesses it began itself
  pub own : ℕ
  pub few : own ≤ limit
  -- accesses that earlier calls began stay begun until they are answered
  pub unanswered : begun ≡ if host_end_is_all ended then 0 else max own (left - (answered - from))
  -- if it began unanswered accesses: a request for TAR, and one for each access that it answered or began
  pub begins : own ≢ 0 → opening + 1 + (answered - from) + own ≤ requests
  -- at most what the tries allow for the accesses that it answered, and for one more
  pub spends : requests ≤ most (min (n - from) (answered - from + 1))

-- the most requests of a call that resumes: five more than those of a run
abbrev pub script_most_resumed : Bursts → ℕ → ℕ → ℕ
script_most_resumed kind tries n = 5 + host_most_requests (resumed_bursts (script_resumed_bursts kind)) tries n

-- The successive calls. Each that resumes opens the target again, and begins at most one access that it doesn't answer.
abbrev pub AreScriptCalls : (opening : ℕ) → (most : ℕ → ℕ) → (limit : ℕ) → (again : ℕ → ℕ) → (n from left : ℕ)
    → List Stop → HostReport → Type 0
AreScriptCalls opening most limit again n from left [] told =
    IsScriptCall opening most limit n from left (length told.answers) told.begun told.requests told.ended
AreScriptCalls opening most limit again n from left (stop ∷ stops) told =
    IsScriptCall opening most limit n from left stop.answered stop.begun stop.requests Lost
    × AreScriptCalls 9 again 1 again n stop.answered stop.begun stops told

-- the first call's number of answers, and of accesses begun after these
abbrev pub script_answered_first : List Stop → HostReport → ℕ
script_answered_first [] told = length told.answers
script_answered_first (stop ∷ stops) told = stop.answered

abbrev pub script_begun_first : List Stop → HostReport → ℕ
script_begun_first [] told = told.begun
script_begun_first (stop ∷ stops) told = stop.begun

-- the report of a call, with nine requests more, as of an opening
abbrev pub script_with_opening : HostReport → HostReport
script_with_opening told = record told { requests = 9 + told.requests }

-- Reports of calls as `ResumeChain` counts them, which has an opening in each call: over an open target those of the
-- opening are added to the first one. These are the calls before the last one, and the last one.
abbrev pub script_chain_calls : Bool → List HostReport → List HostReport
script_chain_calls false calls = calls
script_chain_calls true [] = []
script_chain_calls true (told ∷ calls) = script_with_opening told ∷ calls

abbrev pub script_chain_last : Bool → List HostReport → HostReport → HostReport
script_chain_last false calls told = told
script_chain_last true [] told = script_with_opening told
script_chain_last true (first ∷ calls) told = told

-- The reports of the calls, where each call is a run over the rest of the list from the memory that the one before
-- left. The last call left `memory`, which is `after` if the list is whole.
pub record ScriptCallsInTurn (opened : Bool) (limit : ℕ) (stops : List Stop) (list : List Access) (m : Bus)
    (told : HostReport) (after : Bus) : Type 0 where
  pub calls : List HostReport
  pub are : stops ≡ script_stops_of calls
  pub memory : Bus
  pub chain : ResumeChain limit list m (script_chain_calls opened calls) (script_chain_last opened calls told) memory
  pub left : told.ended ≡ All → memory ≡ after

-- The report is that of `Again`: the accesses at some places were repeated, at most one for each time that the run was
-- resumed. A whole list leaves the memory `after`, which has the same words as without repetitions.
pub record ScriptCallsAgain (stops : List Stop) (list : List Access) (m : Bus) (told : HostReport)
    (after : Bus) : Type 0 where
  pub places : List ℕ
  pub few : length places ≤ length stops
  pub memory : Bus
  pub again : Again places list m told memory
  pub left : told.ended ≡ All → memory ≡ after
  pub words : told.ended ≡ All → plain_words_of after ≡ plain_words_of (memory_after list m)

-- A list of reads, such as a block, over a plain memory. The answers are those of the list done once, if the log has
-- room for the reads that may have been repeated. A whole list changes no word.
pub record ScriptCallsOfReads (limit : ℕ) (stops : List Stop) (list : List Access) (m : Bus) (told : HostReport)
    (after : Bus) : Type 0 where
  pub answers : IsPlainWithRoom (limit + (length stops - 1)) list m
      → told.answers ≡ answers_of (take (length told.answers) list) m
  pub words : IsPlain m → told.ended ≡ All → plain_words_of after ≡ plain_words_of m

-- What the reports of the calls state about the plain memory. The first call's answers are the plain memory's. So are
-- all answers of a list of reads, if the log has room for the repeated reads. And so are those of any list of which the
-- first call left at most one access begun, if the log has room for the repeated accesses.
pub record ScriptCallsReport (opened : Bool) (kind : Bursts) (tries : ℕ) (list : List Access) (m : Bus)
    (stops : List Stop) (told : HostReport) (after : Bus) : Type 0 where
  pub calls : AreScriptCalls (script_opening_requests opened) (script_most_requests opened kind tries)
      (bursts_limit kind)
      (script_most_resumed kind tries) (length list) 0 0 stops told
  pub first : take (script_answered_first stops told) told.answers
      ≡ answers_of (take (script_answered_first stops told) list) m
  pub turns : ScriptCallsInTurn opened (bursts_limit kind) stops list m told after
  pub again : script_begun_first stops told ≤ 1 → IsPlainWithRoom (length stops) list m
      → ScriptCallsAgain stops list m told after
  pub reads : 1 ≤ bursts_limit kind → AreBlockReads list
      → ScriptCallsOfReads (bursts_limit kind) stops list m told after
