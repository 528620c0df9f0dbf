-- What the result for a script and a plan states: the theorem of the host, for files.
use Rattle.std.specs.Prelude.{◌≡◌, ℕ, ◌+◌, ◌*◌, ◌<◌, ◌≤◌, List, [], ◌∷◌, ◌++◌, length, take, drop, Option, Result, Ok}
use Rattle.std.specs.Prelude.{Err}
use Rattle.std.specs.Prelude.{IfSome, ◌==◌, IsOk, None, Some, Bool, false, if◌then◌else◌, min}
use Rattle.swd_io.specs.Pieces.{IsReaderText}
use Rattle.swd_io.specs.declared.pieces.Unread.{Unread}
use Rattle.swd_io.specs.declared.pieces.Unread.TheVariants.{Reader, Consumer}
use Rattle.swd_trace.specs.declared.item.Item.{Item}
use Rattle.swd_recorder.specs.Items.{recorded_items_by}
use Rattle.swd_observer.specs.Explained.{ObservedLog}
use Rattle.swd_observer.specs.Traces.{trace_observer_made, observed_in_trace}
use Rattle.swd_port.specs.declared.call.Call.{Call}
use Rattle.swd_port.specs.declared.mark.Mark.{Mark}
use Rattle.swd_port.specs.MarkCounts.{port_disturbed_among, port_lost_among}
use Rattle.swd_port.specs.Bus.{Bus}
use Rattle.swd_host.specs.declared.outcome.End.{End}
use Rattle.swd_host.specs.declared.outcome.End.TheVariants.{All, Lost, TriesOut, WrongId, Confused}
use Rattle.swd_host.specs.declared.task.Bursts.{Bursts}
use Rattle.swd_host.specs.Tasks.{resumed_bursts}
use Rattle.swd_host.specs.Bursts.{bursts_limit, event_requests}
use Rattle.swd_host.specs.Reports.{HostReport, FitsFrom}
use Rattle.swd_script.specs.Scripts.{ScriptListed, ScriptMeaning, script_of}
use Rattle.swd_script.specs.Plans.{plan_of}
use Rattle.swd_script.specs.Readers.{IsScriptFault, IsPlanFileFault}
use Rattle.swd_script.specs.declared.fault.ScriptFault.{ScriptFault}
use Rattle.swd_run.specs.declared.going_on.Stop.{Stop}
use Rattle.swd_run.specs.declared.engine.Finished.{Finished}
use Rattle.swd_run.specs.declared.fault.EngineFault.{EngineFault}
use Rattle.swd_run.specs.declared.fault.RunFault.{RunFault}
use Rattle.swd_run.specs.declared.fault.RunFault.TheVariants.{Texts, Engine}
use Rattle.swd_run.specs.declared.fault.TextsFault.{TextsFault}
use Rattle.swd_run.specs.declared.fault.TextsFault.TheVariants.{Script, Plan, Read}
use Rattle.swd_run.specs.Engine.{Answers, AreItemsOfCalls, AreRunTraceItems, IsPartOfRunTrace, IsRunTraceOf}
use Rattle.swd_run.specs.GoingOn.{ScriptCallsReport, script_calls_in_all, script_resumed_bursts}
use Rattle.swd_run.specs.declared.limits.Limits.{Limits}
use Rattle.swd_run.specs.Records.{AreRunFilesLeft, RunFiles, IsRunFileLeft}
use Rattle.swd_run.specs.ScriptDevices.{script_bus}
use Rattle.swd_run.specs.Sessions.{ScriptRun, ScriptRunsReportCalls, script_ended, batch_bursts, script_is_open}
use Rattle.swd_run.specs.Sessions.{script_requests}
use Rattle.swd_run.specs.Starts.{script_most_requests, script_opening_requests}
use Rattle.swd_run.specs.Transfers.{AreWholeRuns, report_transfers_in}
use Rattle.swd_run.specs.Unfoldings.{BatchRuns, Unfolds, calls_of, ends_until, first_batch_again, runs_of}

-- a run stops early only if a mark of the plan loses a request, or more marks disturb requests than the tries allow
abbrev pub IsRunExcused : End → ℕ → List Mark → Type 0
IsRunExcused All tries marks = Unit {0}
IsRunExcused Lost tries marks = 0 < port_lost_among marks
IsRunExcused TriesOut tries marks = tries < port_disturbed_among marks
IsRunExcused (WrongId word) tries marks = ⊥
IsRunExcused Confused tries marks = ⊥

-- The result of a run over a bus with the marks of a plan. The report fits the bus before and after it. A run
-- over a target that is open already (`opened`) has no request of an opening.
pub record RunsAs (opened : Bool) (kind : Bursts) (tries : ℕ) (batch : ScriptListed) (before : Bus) (marks : List Mark)
    (told : HostReport) (after : Bus)
    : Type 0 where
  pub fits : FitsFrom (script_opening_requests opened) (bursts_limit kind) batch.accesses before told after
  pub excused : IsRunExcused told.ended tries marks
  pub whole : port_lost_among marks ≡ 0 → port_disturbed_among marks ≤ tries → told.ended ≡ All
  pub least : told.ended ≡ All → script_opening_requests opened + length batch.accesses ≤ told.requests
  pub most : told.requests ≤ script_opening_requests opened + 6 * length batch.accesses
      + event_requests kind * port_disturbed_among marks
  -- at most what the tries allow for the opening, for the answered accesses, and for one more
  pub spends : told.requests ≤ script_most_requests opened kind tries
      (min (length batch.accesses) (length told.answers + 1))

-- The result of a run that may be resumed `limits.resumes` times. If it wasn't resumed, `RunsAs` holds of it.
-- `ScriptCallsReport` holds of its calls in any case. It was resumed at most as often as marks of the plan lose a
-- request. It ends at a lost acknowledgement only if more than `limits.resumes` marks lose one.
pub record RunsOn (opened : Bool) (limits : Limits) (batch : ScriptListed) (before : Bus) (marks : List Mark)
    (stops : List Stop) (told : HostReport) (after : Bus) : Type 0 where
  pub alone : stops ≡ [] → RunsAs opened (batch_bursts limits.bursts batch) limits.tries batch before marks told after
  pub tells : ScriptCallsReport opened (batch_bursts limits.bursts batch) limits.tries batch.accesses before stops told
      after
  pub few : length stops ≤ limits.resumes
  pub lost : length stops ≤ port_lost_among marks
  pub excused : IsRunExcused told.ended limits.tries marks
  pub last : told.ended ≡ Lost → (length stops ≡ limits.resumes) × (limits.resumes < port_lost_among marks)
  pub whole : port_lost_among marks ≤ limits.resumes → port_disturbed_among marks ≤ limits.tries → told.ended ≡ All
  -- the requests of all calls
  pub most : (script_calls_in_all stops told).requests ≤ script_opening_requests opened + 6 * length batch.accesses
      + event_requests (batch_bursts limits.bursts batch) * port_disturbed_among marks
      + length stops * (14 + 6 * length batch.accesses
      + event_requests (resumed_bursts (script_resumed_bursts
      (batch_bursts limits.bursts batch))) * port_disturbed_among marks)

-- The successive runs of a script over its bus. `RunsOn` holds of each run, from the bus that the one
-- before left. The first one opens the target. A later one starts only if the one before ended `All`, and goes over the
-- target that this left open.
pub data ScriptSession (limits : Limits) (marks : List Mark) (m : Bus) : List ScriptListed → List ScriptRun
    → Bus → Type 0 where
  none : ScriptSession limits marks m [] [] m
  then : {batches : List ScriptListed} {runs : List ScriptRun} {before after : Bus} {batch : ScriptListed}
      {run : ScriptRun} → ScriptSession limits marks m batches runs before → script_ended runs ≡ All
      → RunsOn (script_is_open false runs) limits batch before marks run.stops run.told after
      → ScriptSession limits marks m (batches ++ batch ∷ []) (runs ++ run ∷ []) after

-- The runs of a script's first batches from its initial memory, and the memory that they left: the session of the calls
-- that these batches unfold to.
pub record RunsScript (limits : Limits) (script : ScriptMeaning) (marks : List Mark) (made : List BatchRuns)
    (memory : Bus) : Type 0 where
  pub unfolds : Unfolds (take (length made) script.batches) made
  pub session : ScriptSession limits marks (script_bus script) (calls_of script.batches made) (runs_of made)
      memory

-- the capacity of a memory's log, if the log is full: each later transfer is a bus error
abbrev pub full_room : ℕ → Bus → Option ℕ
full_room room memory = if length memory.log == room then Some room else None

-- a result with the capacity of the full log
abbrev pub with_full_room : Option ℕ → Result Finished EngineFault → Result Finished EngineFault
with_full_room used (Ok finished) = Ok (record finished { full = used })
with_full_room used (Err fault) = Err fault

-- the inputs are a script with this meaning, and a plan with these marks
pub record AreScriptAndPlan (script plan : Option (List ℕ)) (meaning : ScriptMeaning) (marks : List Mark) : Type 0 where
  pub script_text : List ℕ
  pub is_script : IsReaderText script script_text
  pub means : script_of script_text ≡ Ok meaning
  pub plan_text : List ℕ
  pub is_plan : IsReaderText plan plan_text
  pub plans : plan_of plan_text ≡ Ok marks

-- the runs of a script from its initial memory
pub record RanScript (limits : Limits) (script : ScriptMeaning) (marks : List Mark) (memory : Bus) : Type 0
  where
    pub made : List BatchRuns
    pub are : RunsScript limits script marks made memory

-- such runs, each of which ended `All`, before one that ran out of memory
pub record RanScriptShort (limits : Limits) (script : ScriptMeaning) (marks : List Mark) : Type 0 where
  pub made : List BatchRuns
  pub memory : Bus
  pub are : RunsScript limits script marks made memory
  pub all : script_ended (runs_of made) ≡ All
  pub came : ends_until script.batches made ≡ false

-- The complete trace of a script's calls and runs: the items of the calls that their reports describe. The accesses
-- that it shows explain the log of the target's memory. If each call ended `All` and none was resumed, they explain the
-- transfers that the reports state: those of the lists, but for bus errors, with their addresses and words.
pub record IsTraceIn (memory : Bus) (batches : List ScriptListed) (runs : List ScriptRun) (items : List Item) :
    Type 0
  where
    pub is : IsRunTraceOf (script_requests runs) (script_ended runs) items
    pub calls : List Call
    pub told : ScriptRunsReportCalls batches runs calls
    pub of_calls : items ≡ recorded_items_by calls
    pub explained : ∥ ObservedLog (observed_in_trace items trace_observer_made) memory.log ∥₁
    pub reported : AreWholeRuns runs → ∥ ObservedLog (observed_in_trace items trace_observer_made)
        (report_transfers_in batches runs) ∥₁

-- a truncated trace of a script's calls and runs: the items of the first of the calls that their reports describe
pub record IsPartOfTraceIn (batches : List ScriptListed) (runs : List ScriptRun) (items : List Item) : Type 0 where
  pub part : IsPartOfRunTrace (script_requests runs) items
  pub calls : List Call
  pub told : ScriptRunsReportCalls batches runs calls
  pub of_calls : AreItemsOfCalls calls items

-- The trace of a script whose first batches have these runs, where memory ran out, maybe after further runs of the next
-- batch: the items of the calls that the reports of all these describe, or of the first of these calls.
pub record IsTraceUpTo (batches : List ScriptListed) (made : List BatchRuns) (items : List Item) : Type 0 where
  pub read : AreRunTraceItems items
  pub more : List ScriptRun
  pub calls : List Call
  pub told : ScriptRunsReportCalls (calls_of batches made ++ first_batch_again (drop (length made) batches) more)
      (runs_of made ++ more) calls
  pub of_calls : AreItemsOfCalls calls items

-- What the engine's result states about a script over a new target, and some memory that it is left with.
abbrev pub ScriptRunAnswers : Limits → ScriptMeaning → List Mark → Result Finished EngineFault → Option (List ℕ)
    → Option (List ℕ) → RunFiles → RunFiles → Type 0
ScriptRunAnswers limits script marks answer old new before after =
    (memory : Bus)
    × Answers {Came = RanScript limits script marks memory} {Short = RanScriptShort limits script marks}
    script.batches (full_room script.room memory) (λ ran. ran.made) (λ short. short.made)
    (λ ran items. IsTraceIn memory (calls_of script.batches ran.made) (runs_of ran.made) items)
    (λ ran items. IsPartOfTraceIn (calls_of script.batches ran.made) (runs_of ran.made) items)
    (λ short items. IsTraceUpTo script.batches short.made items) answer old new before after

-- the inputs were read, and the engine gave this result
pub record RanScriptText (limits : Limits) (answer : Result Finished EngineFault)
    (script plan old new : Option (List ℕ)) (before after : RunFiles) : Type 0 where
  pub meaning : ScriptMeaning
  pub marks : List Mark
  pub read : AreScriptAndPlan script plan meaning marks
  pub answers : ScriptRunAnswers limits meaning marks answer old new before after

-- the input, if it is known, is a valid script, or a valid plan
abbrev pub IsRunScriptInput : Option (List ℕ) → Type 0
IsRunScriptInput known = IfSome known (λ text. IsOk (script_of text))

abbrev pub IsRunPlanInput : Option (List ℕ) → Type 0
IsRunPlanInput known = IfSome known (λ text. IsOk (plan_of text))

-- why the inputs weren't read: the first error of the script, or of the plan after a valid script; nothing is stated
-- about a reader that failed
abbrev pub AreRunTextsUnread : TextsFault → Option (List ℕ) → Option (List ℕ) → Type 0
AreRunTextsUnread (Script fault) script plan = IfSome script (IsScriptFault fault)
AreRunTextsUnread (Plan fault) script plan = IsRunScriptInput script × IfSome plan (IsPlanFileFault fault)
AreRunTextsUnread Read script plan = Unit {0}

-- What a result states about the inputs, if their bytes are known, and about the contents of the writers before and
-- after.
abbrev pub RunsText : Limits → Result Finished RunFault → Option (List ℕ) → Option (List ℕ) → Option (List ℕ)
    → Option (List ℕ) → RunFiles → RunFiles → Type 0
RunsText limits (Ok finished) script plan old new before after =
    RanScriptText limits (Ok finished) script plan old new before after
RunsText limits (Err (Engine fault)) script plan old new before after =
    RanScriptText limits (Err fault) script plan old new before after
RunsText limits (Err (Texts fault)) script plan old new before after =
    AreRunTextsUnread fault script plan × IsRunFileLeft old new × AreRunFilesLeft before after

-- the error of a script that wasn't read
abbrev pub run_script_fault : Unread ScriptFault → TextsFault
run_script_fault Reader = Read
run_script_fault (Consumer fault) = Script fault

abbrev pub run_plan_fault : Unread ScriptFault → TextsFault
run_plan_fault Reader = Read
run_plan_fault (Consumer fault) = Plan fault
