-- The successive runs of a script over one wire.
use Rattle.std.specs.Prelude.{ℕ, ◌≡◌, ◌+◌, ◌<◌, ◌≤◌, Bool, true, false, List, [], ◌∷◌, ◌++◌, length, is_some}
use Rattle.std.specs.Prelude.{if◌then◌else◌}
use Rattle.swd_port.specs.declared.call.Call.{Call}
use Rattle.swd_port.specs.declared.wire.Wire.{Ghosts}
use Rattle.swd_host.specs.declared.outcome.End.{End}
use Rattle.swd_host.specs.declared.outcome.End.TheVariants.{All, Lost}
use Rattle.swd_host.specs.declared.task.Bursts.{Bursts}
use Rattle.swd_host.specs.declared.task.Bursts.TheVariants.{Never, Writes, Reads}
use Rattle.swd_host.specs.Reports.{HostReport, host_report_of}
use Rattle.swd_script.specs.Scripts.{ScriptListed}
use Rattle.swd_run.specs.declared.going_on.Resumed.{Resumed}
use Rattle.swd_run.specs.declared.going_on.Stop.{Stop}
use Rattle.swd_run.specs.declared.limits.Limits.{Limits}
use Rattle.swd_run.specs.GoingOn.{ScriptReportsCalls, ScriptCallsFrom, script_calls_in_all}

-- the places where a run was resumed, and the report of its last call
pub record ScriptRun : Type 0 where
  pub stops : List Stop
  pub told : HostReport

abbrev pub script_run_of : {A : Type 0} → Resumed A → ScriptRun
script_run_of resumed = record { stops = resumed.stops.items; told = host_report_of resumed.report }

-- which accesses of a batch are performed in bursts: the reads of a block, else writes where these may be
abbrev pub batch_bursts : Bool → ScriptListed → Bursts
batch_bursts bursts batch = if is_some batch.block then Reads else if bursts then Writes else Never

-- how the last run ended; `All` without a run
abbrev pub script_ended : List ScriptRun → End
script_ended [] = All
script_ended (run ∷ []) = run.told.ended
script_ended (run ∷ next ∷ runs) = script_ended (next ∷ runs)

-- the number of requests of all runs
abbrev pub script_requests : List ScriptRun → ℕ
script_requests [] = 0
script_requests (run ∷ runs) = (script_calls_in_all run.stops run.told).requests + script_requests runs

-- whether the target is open after these runs, each of which ended `All`; `opened` says whether it was before them
abbrev pub script_is_open : Bool → List ScriptRun → Bool
script_is_open opened [] = opened
script_is_open opened (run ∷ runs) = true

-- One run over a wire with this kind of bursts, resumed at most `limits.resumes` times. `opened` says whether the
-- target is open already.
pub record RunsBatchFrom {W : Type 0} (wire : Ghosts W) (opened : Bool)
    (kind : Bursts) (limits : Limits) (batch : ScriptListed) (s : W) (run : ScriptRun) (t : W) : Type 0 where
  pub went : ScriptCallsFrom wire opened kind batch.accesses limits.tries s run.stops run.told t
  pub few : length run.stops ≤ limits.resumes
  pub lost : run.told.ended ≡ Lost → length run.stops ≡ limits.resumes

-- the same for a run that opens the target
abbrev pub RunsBatch : {W : Type 0} → Ghosts W → (kind : Bursts) (limits : Limits)
    → ScriptListed → W → ScriptRun → W → Type 0
RunsBatch wire kind limits batch s run t =
    RunsBatchFrom wire false kind limits batch s run t

-- Successive runs, from the wire s to the wire t. Each starts only if the one before ended `All`, over the target that
-- this left open. `opened` says whether the target is open at s; else the first run opens it.
pub data RunsBatches {W : Type 0} (wire : Ghosts W) (opened : Bool)
    (kind : ScriptListed → Bursts) (limits : Limits) (s : W) : List ScriptListed → List ScriptRun → W → Type 0 where
  none : RunsBatches wire opened kind limits s [] [] s
  then : {batches : List ScriptListed} {runs : List ScriptRun} {t u : W} {batch : ScriptListed} {run : ScriptRun}
      → RunsBatches wire opened kind limits s batches runs t → script_ended runs ≡ All
      → RunsBatchFrom wire (script_is_open opened runs) (kind batch) limits batch t run u
      → RunsBatches wire opened kind limits s (batches ++ batch ∷ []) (runs ++ run ∷ []) u

-- These calls, the last one first, are those that the reports of successive runs describe.
pub data ScriptRunsReportCalls : List ScriptListed → List ScriptRun → List Call → Type 0 where
  no_run : ScriptRunsReportCalls [] [] []
  one_run : {batches : List ScriptListed} {runs : List ScriptRun} {before calls : List Call} (batch : ScriptListed)
      (run : ScriptRun) → ScriptRunsReportCalls batches runs before
      → ScriptReportsCalls batch.accesses run.stops run.told calls
      → ScriptRunsReportCalls (batches ++ batch ∷ []) (runs ++ run ∷ []) (calls ++ before)

-- A run from the wire s to the wire t that ran out of memory: before its first bit, or when it was to be resumed after
-- a lost acknowledgement.
pub data IsBatchRefused {W : Type 0} (wire : Ghosts W) (opened : Bool)
    (kind : Bursts) (limits : Limits) (batch : ScriptListed) (s t : W) : Type 0 where
  unsent : t ≡ s → IsBatchRefused wire opened kind limits batch s t
  unresumed : {stops : List Stop} {told : HostReport}
      → ScriptCallsFrom wire opened kind batch.accesses limits.tries s stops told t
      → told.ended ≡ Lost → length stops < limits.resumes
      → IsBatchRefused wire opened kind limits batch s t
