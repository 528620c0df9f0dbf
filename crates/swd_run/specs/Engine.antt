-- What the engine's result states about a script's calls over a wire, their reports, and their trace.
use Rattle.std.specs.Prelude.{◌≡◌, ℕ, ◌≤◌, ◌↔◌, ◌⊎◌, Bool, true, false, List, [], ◌∷◌, ◌++◌, length, take, drop}
use Rattle.std.specs.Prelude.{Option, None, Result, Ok, Err}
use Rattle.std.specs.Io.KnownBytes.{Appends}
use Rattle.swd_io.specs.Blocks.{OutputStopped}
use Rattle.swd_trace.specs.declared.item.Item.{Item}
use Rattle.swd_trace.specs.Reading.{reading_of}
use Rattle.swd_trace.specs.Texts.{bits_of_items}
use Rattle.swd_recorder.specs.Items.{RecordingCutOff, recorded_items_by}
use Rattle.swd_recorder.specs.Steps.{recorded_transactions, RecordedEndsUnacknowledged}
use Rattle.swd_port.specs.declared.call.Call.{Call}
use Rattle.swd_port.specs.declared.wire.Wire.{Ghosts}
use Rattle.swd_port.specs.Leading.{port_line_awaits}
use Rattle.swd_port.specs.Bus.{Bus}
use Rattle.swd_port.specs.Made.{port_made}
use Rattle.swd_observer.specs.Explained.{ObservedLog}
use Rattle.swd_observer.specs.Runs.{Accounted}
use Rattle.swd_observer.specs.Traces.{trace_observer_made, trace_observer_unknown, observed_in_trace}
use Rattle.swd_host.specs.declared.outcome.End.{End}
use Rattle.swd_host.specs.declared.outcome.End.TheVariants.{All, Lost}
use Rattle.swd_host.specs.Reports.{IsAtRest}
use Rattle.swd_script.specs.Scripts.{ScriptListed}
use Rattle.swd_run.specs.declared.engine.Finished.{Finished}
use Rattle.swd_run.specs.declared.fault.EngineFault.{EngineFault}
use Rattle.swd_run.specs.declared.fault.EngineFault.TheVariants.{Memory, Write, WriteAccesses, TraceCut}
use Rattle.swd_run.specs.declared.limits.Limits.{Limits}
use Rattle.swd_run.specs.Records.{RunAccessesStop, AreRunFilesStarted, AreRunFilesLeft, AreRunFilesWritten, RunFiles}
use Rattle.swd_run.specs.Records.{IfRunFiles, RunTraceStops, wants_run_files}
use Rattle.swd_run.specs.Reports.{session_text}
use Rattle.swd_run.specs.Sessions.{RunsBatches, script_ended, batch_bursts, script_is_open, script_requests}
use Rattle.swd_run.specs.Transfers.{AreWholeRuns, report_transfers_in}
use Rattle.swd_run.specs.Unfoldings.{AreBatchesDone, BatchRuns, IsCutShort, Unfolds, calls_of, ends_until, runs_of}
use Rattle.swd_run.specs.Verified.{first_difference, runs_met_bus_fault}
use Rattle.swd_run.specs.Wires.{run_wire_seen}

-- WHAT RAN
-- Runs of the first of these batches over a wire, from its state `start` to `end`: of the calls that these unfold to,
-- in order. Each run but the last ended `All`. The first run opens the target, and each later one goes over the target
-- that the one before left open. Whatever came back, the calls that were made of the wire are those that the reports
-- describe, and `ScriptCallCloses` or `ResumeCloses` holds of each. Where the wire is lawful, the theorem of the host
-- holds too.
pub record RanBatches {W : Type 0} (wire : Ghosts W) (limits : Limits)
    (batches : List ScriptListed) (start end : W) : Type 0 where
  pub made : List BatchRuns
  pub unfolds : Unfolds (take (length made) batches) made
  pub are : RunsBatches wire false (batch_bursts limits.bursts) limits start (calls_of batches made) (runs_of made)
      end

-- Such runs, each of which ended `All`, and then one that ran out of memory. It may be a later read of an `until`.
pub record RanBatchesShort {W : Type 0} (wire : Ghosts W)
    (limits : Limits) (batches : List ScriptListed) (start end : W) : Type 0 where
  pub between : W
  pub before : RanBatches wire limits batches start between
  pub all : script_ended (runs_of before.made) ≡ All
  pub came : ends_until batches before.made ≡ false
  pub batch : ScriptListed
  pub later : List ScriptListed
  pub next : drop (length before.made) batches ≡ batch ∷ later
  pub refused : IsCutShort wire (script_is_open false (runs_of before.made)) limits batch between end

-- The end of the last run, and whether it is the read of an `until` whose word never came. The first `verify` read
-- whose answer wasn't the expected word, and whether an access was a bus error. And the capacity of the target's log,
-- if it is known and the log is full.
pub record IsScriptFinished (batches : List ScriptListed) (made : List BatchRuns) (used : Option ℕ)
    (finished : Finished) : Type 0
  where
    pub ended : finished.ended ≡ script_ended (runs_of made)
    pub never_came : finished.never_came ≡ ends_until batches made
    pub differs : finished.differs ≡ first_difference (calls_of batches made) (runs_of made)
    pub bus_fault : finished.bus_fault ≡ runs_met_bus_fault (runs_of made)
    pub full : finished.full ≡ used

-- THEIR TRACE
-- items whose bits decode to the same items
abbrev pub AreRunTraceItems : List Item → Type 0
AreRunTraceItems items = reading_of (bits_of_items items) ≡ items

-- the items of these calls, or of those before one at which the trace was truncated
abbrev pub AreItemsOfCalls : List Call → List Item → Type 0
AreItemsOfCalls calls items = (items ≡ recorded_items_by calls) ⊎ ∥ RecordingCutOff items calls ∥₁

-- The complete trace of runs that sent `requests` requests, with one transaction for each. Its last item is a
-- transaction without acknowledgement exactly if the last run ended `Lost`.
pub record IsRunTraceOf (requests : ℕ) (ended : End) (items : List Item) : Type 0 where
  pub read : AreRunTraceItems items
  pub counted : recorded_transactions items ≡ requests
  pub lost : RecordedEndsUnacknowledged items ↔ (ended ≡ Lost)

-- The items of a truncated trace of runs that sent `requests` requests: they have at most one transaction for each.
pub record IsPartOfRunTrace (requests : ℕ) (items : List Item) : Type 0 where
  pub read : AreRunTraceItems items
  pub counted : recorded_transactions items ≤ requests

-- Items whose bits decode to the same items: those of the calls that the wire noted until it was so, or of the first
-- of these calls.
pub record AreItemsSoFar {W : Type 0} (wire : Ghosts W) (end : W) (items : List Item) : Type 0 where
  pub read : AreRunTraceItems items
  pub of_calls : (calls : List Call) → wire.notes calls end → AreItemsOfCalls calls items

module _ {W : Type 0} {wire : Ghosts W} {limits : Limits} {batches : List ScriptListed} {start end : W}
    (ran : RanBatches wire limits batches start end) where
  -- The trace of what ran: the items of the calls that the wire noted, whose bits decode to the same items. If the
  -- wire is lawful and the target was at rest, there is one transaction for each request.
  pub record IsTraceOver (items : List Item) : Type 0 where
    pub read : AreRunTraceItems items
    pub of_calls : (calls : List Call) → wire.notes calls end → items ≡ recorded_items_by calls
    pub whole : wire.lawful end → IsAtRest (wire.port start)
        → IsRunTraceOf (script_requests (runs_of ran.made)) (script_ended (runs_of ran.made)) items
    -- if the target began in its reset state, the accesses that the items show explain the log of its memory
    pub explained : wire.lawful end → IsAtRest (wire.port start) → (identification : ℕ) (m : Bus)
        → wire.port start ≡ port_made identification m
        → ∥ Accounted m.log (observed_in_trace items trace_observer_made) (wire.port end) ∥₁
    -- of any other target at rest that awaits no write data, those do which they show where nothing is known at first
    pub explained_any : wire.lawful end → IsAtRest (wire.port start)
        → port_line_awaits (wire.port start).link.line ≡ false
        → ∥ Accounted (wire.port start).target.memory.log (observed_in_trace items trace_observer_unknown)
        (wire.port end) ∥₁
    -- If also each call ended `All` and none was resumed, the same accesses explain the transfers that the reports
    -- state: those of the lists, but for bus errors, with their addresses and words.
    pub reported : wire.lawful end → IsAtRest (wire.port start) → AreWholeRuns (runs_of ran.made)
        → (identification : ℕ) (m : Bus) → wire.port start ≡ port_made identification m
        → ∥ ObservedLog (observed_in_trace items trace_observer_made)
        (report_transfers_in (calls_of batches ran.made) (runs_of ran.made)) ∥₁
    pub reported_any : wire.lawful end → IsAtRest (wire.port start) → AreWholeRuns (runs_of ran.made)
        → port_line_awaits (wire.port start).link.line ≡ false
        → ∥ ObservedLog (observed_in_trace items trace_observer_unknown)
        (report_transfers_in (calls_of batches ran.made) (runs_of ran.made)) ∥₁

  -- the same for a truncated trace, which has the items of the first of these calls
  pub record IsOfTraceOver (items : List Item) : Type 0 where
    pub so_far : AreItemsSoFar wire end items
    pub part : wire.lawful end → IsAtRest (wire.port start)
        → IsPartOfRunTrace (script_requests (runs_of ran.made)) items

-- THE WRITERS
-- Exactly the first bytes of these runs' reports were written: all of the earlier reports, and not all of the last one.
-- `written` is their number, at most 2^64 - 1.
pub record StopsInLastReport (written : ℕ) (old new : Option (List ℕ)) (batches : List ScriptListed)
    (made : List BatchRuns) : Type 0 where
  pub earlier : List BatchRuns
  pub last : BatchRuns
  pub are : made ≡ earlier ++ last ∷ []
  pub stopped : OutputStopped written old new (session_text batches made)
  pub past : length (session_text batches earlier) ≤ stopped.sent

-- THE RESULT
-- What a result states about the batches, about the contents of the report's writer before and after, and
-- about those of the other files. `Came` is what ran, and `made` gives the runs of its batches. `IsWhole` and `IsPart`
-- say which items are its complete or truncated trace. `Short` is what ran if memory ran out, `made_before` gives those
-- of the batches before the one without memory, and `IsBegun` says which items are its trace so far. If a report
-- couldn't be written, its run is the last one. If another file couldn't be written, all reports were.
module _ {Came Short : Type 0} (batches : List ScriptListed) (used : Option ℕ) (made : Came → List BatchRuns)
    (made_before : Short → List BatchRuns) (IsWhole IsPart : Came → List Item → Type 0)
    (IsBegun : Short → List Item → Type 0) where
  abbrev pub Answers : Result Finished EngineFault → Option (List ℕ) → Option (List ℕ) → RunFiles → RunFiles → Type 0
  Answers (Ok finished) old new before after =
      (came : Came) × AreBatchesDone batches (made came) × IsScriptFinished batches (made came) used finished
      × Appends old new (session_text batches (made came))
      × IfRunFiles (wants_run_files before) (λ items. IsWhole came items × AreRunFilesWritten items before after)
      (AreRunFilesLeft before after)
  Answers (Err Memory) old new before after =
      (short : Short) × Appends old new (session_text batches (made_before short))
      × IfRunFiles (wants_run_files before) (λ items. IsBegun short items × AreRunFilesStarted items before after)
      (AreRunFilesLeft before after)
  Answers (Err (Write written)) old new before after =
      (came : Came)
      × ((StopsInLastReport written old new batches (made came)
      × IfRunFiles (wants_run_files before) (λ items. IsPart came items × AreRunFilesStarted items before after)
      (AreRunFilesLeft before after))
      ⊎ ((items : List Item) × AreBatchesDone batches (made came) × Appends old new (session_text batches (made came))
      × IsPart came items × RunTraceStops written items before after))
  Answers (Err (WriteAccesses written)) old new before after =
      (came : Came) × (items : List Item) × AreBatchesDone batches (made came)
      × Appends old new (session_text batches (made came)) × IsPart came items
      × RunAccessesStop written items before after
  Answers (Err TraceCut) old new before after =
      (came : Came) × (items : List Item) × AreBatchesDone batches (made came)
      × Appends old new (session_text batches (made came)) × IsPart came items
      × (wants_run_files before ≡ true) × AreRunFilesWritten items before after

-- the same over a wire, where no log's capacity is known
abbrev pub BatchAnswers : {W : Type 0} → Ghosts W → Limits → List ScriptListed → W → W → Result Finished EngineFault
    → Option (List ℕ) → Option (List ℕ) → RunFiles → RunFiles → Type 0
BatchAnswers wire limits batches start end answer old new before after =
    Answers {Came = RanBatches wire limits batches start end}
    {Short = RanBatchesShort wire limits batches start end} batches None (λ ran. ran.made)
    (λ short. short.before.made) IsTraceOver IsOfTraceOver (λ short items. AreItemsSoFar wire end items) answer
    old new before after

-- the same over a wire that counts its requests itself, or if the run is recorded, beside the recorded calls
abbrev pub BatchAnswersAt : {W : Type 0} → Ghosts W → Limits → List ScriptListed → W → W → Result Finished EngineFault
    → Option (List ℕ) → Option (List ℕ) → RunFiles → RunFiles → Type 0
BatchAnswersAt wire limits batches start end answer old new before after =
    (calls : List Call)
    × BatchAnswers (run_wire_seen (wants_run_files before) wire (λ noted. wire.notes noted start)) limits batches
    ([], start) (calls, end) answer old new before after

-- the files were written, complete or truncated, or only the first bytes of one were
pub data RunFilesOutcome (finished : Finished) (cut : Bool) (items : List Item) (old new : RunFiles)
    : Result Finished EngineFault → Type 0 where
  whole : cut ≡ false → AreRunFilesWritten items old new → RunFilesOutcome finished cut items old new (Ok finished)
  short : cut ≡ true → AreRunFilesWritten items old new → RunFilesOutcome finished cut items old new (Err TraceCut)
  trace_stops : {written : ℕ} → RunTraceStops written items old new
      → RunFilesOutcome finished cut items old new (Err (Write written))
  accesses_stop : {written : ℕ} → RunAccessesStop written items old new
      → RunFilesOutcome finished cut items old new (Err (WriteAccesses written))
