-- The reports of the calls of a load, a verification or a dump, which are written while the calls go on.
use Rattle.std.specs.Prelude.{ℕ, ◌≡◌, ◌≢◌, List, [], ◌++◌, length, Option, Some, None, Result, Ok, Err}
use Rattle.std.specs.Io.KnownBytes.{Appends}
use Rattle.swd_io.specs.Blocks.{OutputStopped}
use Rattle.swd_port.specs.declared.access.Access.{Access}
use Rattle.swd_host.specs.declared.outcome.End.{End}
use Rattle.swd_host.specs.declared.outcome.End.TheVariants.{All}
use Rattle.swd_host.specs.Reports.{HostReport}
use Rattle.swd_script.specs.Scripts.{ScriptListed}
use Rattle.swd_run.specs.declared.limits.Limits.{Limits}
use Rattle.swd_run.specs.Records.{ForRunFile}
use Rattle.swd_run.specs.Reports.{script_run_report}
use Rattle.swd_run.specs.Sessions.{ScriptRun}
use Rattle.swd_image.specs.declared.fault.ImageFault.{ImageFault}
use Rattle.swd_image.specs.declared.fault.ImageFault.TheVariants.{Report, Stopped as StoppedAt}
use Rattle.swd_image.specs.Lists.{image_dump_list, image_edge_list, image_load_list}
use Rattle.swd_port.specs.declared.wire.Wire.{Ghosts}
use Rattle.swd_image.specs.Sessions.{Call}

-- the error of a result, if it is one
abbrev pub image_fault_of : {V : Type 0} → Result V ImageFault → Option ImageFault
image_fault_of (Ok value) = None
image_fault_of (Err fault) = Some fault

module _ {W : Type 0} (wire : Ghosts W) (limits : Limits) where
  -- Consecutive calls from the wire s to another, each after one that ended `All`: how the last one ended (`All`
  -- without a call), the accesses of all of them, and their reports, one after the other.
  pub data Reported (s : W) : End → List Access → List ℕ → W → Type 0 where
    none : Reported s All [] [] s
    more : {list : List Access} {text : List ℕ} {t u : W} {batch : ScriptListed} {run : ScriptRun}
        → Reported s All list text t → Call wire limits batch t run u → batch.until ≡ None
        → Reported s run.told.ended (list ++ batch.accesses) (text ++ script_run_report batch 1 run) u

  -- One call, between two states of the wire, whose last part has this report. A writer got the call's report, if there
  -- is one.
  pub record MakesOne (batch : ScriptListed) (s t : W) (told : HostReport) (before after : Option (Option (List ℕ))) :
      Type 0 where
    pub run : ScriptRun
    pub last : run.told ≡ told
    pub call : Call wire limits batch s run t
    pub writes : ForRunFile (λ old new. Appends old new (script_run_report batch 1 run)) before after

  -- A writer failed at the report of the last one of the calls from the wire s to the wire t, whose reports are this
  -- text. The reports of the calls before it were written, and of its own exactly the first bytes, not all.
  pub record FailsLast (s t : W) (text : List ℕ) (start now : Option (List ℕ)) : Type 0 where
    pub list : List Access
    pub before : List ℕ
    pub reached : W
    pub calls : Reported s All list before reached
    pub batch : ScriptListed
    pub run : ScriptRun
    pub last : Call wire limits batch reached run t
    pub is : text ≡ before ++ script_run_report batch 1 run
    pub middle : Option (List ℕ)
    pub gone : Appends start middle before
    pub told : ℕ
    pub stops : OutputStopped told middle now (script_run_report batch 1 run)

  -- What a writer got of the calls for a list of accesses, without a fault or with one. It had the contents `start`,
  -- and has `now`. The calls are all between the wires s and t. They have all accesses of the list, or at a fault its
  -- first ones. All of their reports was written, or the writer failed at that of the last call.
  pub record Reports (list : List Access) (fault : Option ImageFault) (s t : W) (start now : Option (List ℕ)) : Type 0
    where
      pub ended : End
      pub made : List Access
      pub rest : List Access
      pub text : List ℕ
      pub calls : Reported s ended made text t
      pub split : list ≡ made ++ rest
      pub whole : fault ≡ None → (rest ≡ []) × (ended ≡ All)
      pub stopped : (end : End) → fault ≡ Some (StoppedAt end) → ended ≡ end
      pub writes : fault ≢ Some Report → Appends start now text
      pub fails : fault ≡ Some Report → FailsLast s t text start now

  -- the same of an optional writer; without one no writer fails
  abbrev pub ReportsTo : List Access → Option ImageFault → W → W → Option (Option (List ℕ)) → Option (Option (List ℕ))
      → Type 0
  ReportsTo list fault s t None after = (after ≡ None) × (fault ≢ Some Report)
  ReportsTo list fault s t (Some start) after =
      (now : Option (List ℕ)) × (after ≡ Some now) × Reports list fault s t start now

  -- What a writer got of a load: the accesses are the reads of the partial words and the writes. What the written words
  -- are is no part of a report.
  abbrev pub LoadReports : ℕ → List ℕ → Option ImageFault → W → W → Option (Option (List ℕ))
      → Option (Option (List ℕ)) → Type 0
  LoadReports addr bytes fault s t before after =
      (head : ℕ) × (tail : ℕ)
      × ReportsTo (image_edge_list addr (length bytes) ++ image_load_list addr bytes head tail) fault s t before after

  -- what a writer got of a dump of a range
  abbrev pub DumpReports : ℕ → ℕ → Option ImageFault → W → W → Option (Option (List ℕ)) → Option (Option (List ℕ))
      → Type 0
  DumpReports addr count fault s t before after = ReportsTo (image_dump_list addr count) fault s t before after
