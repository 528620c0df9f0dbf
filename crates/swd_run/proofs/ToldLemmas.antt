-- The calls that were made of a wire are those that the reports of runs tell.
use Rattle.std.proofs.Common.{◌≡◌, ◌∙◌, List, [], ◌∷◌, ◌++◌, ℕ, Bool, false, drop, length, sym, ap, subst, append_assoc}
use Rattle.swd_port.specs.declared.access.Access.{Access}
use Rattle.swd_port.specs.declared.call.Call.{Call}
use Rattle.swd_port.specs.declared.wire.Wire.{Ghosts}
use Rattle.swd_host.specs.Again.{ResumeReportsCalls}
use Rattle.swd_host.specs.Reports.{HostReport}
use Rattle.swd_host.specs.Sent.{HostCalls}
use Rattle.swd_script.specs.Scripts.{ScriptListed}
use Rattle.swd_host.specs.declared.task.Bursts.{Bursts}
use Rattle.swd_run.specs.declared.limits.Limits.{Limits}
use Rattle.swd_run.specs.Engine.{RanBatchesShort}
use Rattle.swd_run.specs.declared.going_on.Stop.{Stop}
use Rattle.swd_run.specs.GoingOn.{ScriptCallsFrom, ScriptReportsCalls, ran, resumed, script_stop_of}
use Rattle.swd_run.specs.GoingOn.{told_again, told_once}
use Rattle.swd_run.specs.Sessions.{IsBatchRefused, RunsBatches, ScriptRun, ScriptRunsReportCalls, batch_bursts}
use Rattle.swd_run.specs.Sessions.{no_run}
use Rattle.swd_run.specs.Sessions.{none, one_run, then, unresumed, unsent}
use Rattle.swd_run.specs.Unfoldings.{batch_again, calls_of, first_batch_again, runs_of}
use Rattle.swd_run.proofs.UnfoldingLemmas.{batch_again_append, runs_append}

-- calls, and calls after them
told_after : {W : Type 0} (notes : List Call → W → Type 0) (P Q R : List Call → Type 0) (u v w : W)
    → ((early late : List Call) → P early → Q late → R (late ++ early)) → HostCalls notes P u v → HostCalls notes Q v w
    → HostCalls notes R u w
told_after notes P Q R u v w joins h i calls noted =
    let first = h calls noted in
    let second = i (first.0 ++ calls) first.1 in (
      second.0 ++ first.0,
      subst (λ l. notes l w) (sym (append_assoc second.0 first.0 calls)) second.1,
      joins first.0 second.0 first.2 second.2,
    )

module _ {W : Type 0} (wire : Ghosts W) {opened : Bool} (kind : Bursts) (list : List Access) (tries : ℕ) (s : W) where
  -- those of a run and of the calls that resumed it are those that their reports tell
  pub went_told : (stops : List Stop) (told : HostReport) (t : W)
      → ScriptCallsFrom wire opened kind list tries s stops told t
      → HostCalls wire.notes (ScriptReportsCalls list stops told) s t
  went_told stops told t (ran {told = a} {t = u} same closes over says) =
      λ calls noted. (let made = says calls noted in (made.0, made.1, told_once made.2))
  went_told stops told t
      (resumed {stops = before} {earlier = e} {told = a} {t = u} {u = v} went lost same goes over says) =
      told_after wire.notes (ScriptReportsCalls list before e) (ResumeReportsCalls list e a)
      (ScriptReportsCalls list (before ++ script_stop_of e ∷ []) a) s u v
      (λ first next is more. told_again is more) (went_told before e u went) says

module _ {W : Type 0} (wire : Ghosts W) (opened : Bool) (most : ScriptListed → Bursts) (limits : Limits) (s : W) where
  -- those of successive runs are those that their reports tell
  pub runs_told : (batches : List ScriptListed) (runs : List ScriptRun) (t : W)
      → RunsBatches wire opened most limits s batches runs t
      → HostCalls wire.notes (ScriptRunsReportCalls batches runs) s t
  runs_told batches runs t none = λ calls noted. ([], noted, no_run)
  runs_told batches runs t
      (then {batches = before} {runs = earlier} {t = u} {u = v} {batch = batch} {run = run} prior all goes) =
      told_after wire.notes (ScriptRunsReportCalls before earlier)
      (ScriptReportsCalls batch.accesses run.stops run.told)
      (ScriptRunsReportCalls (before ++ batch ∷ []) (earlier ++ run ∷ [])) s u v
      (λ first next is more. one_run batch run is more) (runs_told before earlier u prior)
      (went_told wire (most batch) batch.accesses limits.tries u run.stops run.told v goes.went)

-- a run that ran out of memory: further runs of its batch, if it was made at all
module _ {W : Type 0} (wire : Ghosts W) (opened : Bool) (limits : Limits) (batch : ScriptListed)
    (batches : List ScriptListed) (earlier runs : List ScriptRun) (s u : W) where
  abbrev Further : W → Type 0
  Further t = (more : List ScriptRun)
      × HostCalls wire.notes (ScriptRunsReportCalls (batches ++ batch_again batch more) (earlier ++ more)) s t

  refused_told : (t : W)
      → HostCalls wire.notes (ScriptRunsReportCalls (batches ++ batch_again batch runs) (earlier ++ runs)) s u
      → IsBatchRefused wire opened (batch_bursts limits.bursts batch) limits batch u t → Further t
  refused_told t before (unsent same) = (
    runs,
    subst (HostCalls wire.notes (ScriptRunsReportCalls (batches ++ batch_again batch runs) (earlier ++ runs)) s)
        (sym same) before,
  )
  refused_told t before (unresumed {stops = stops} {told = told} went lost few) =
      let run : ScriptRun = record { stops = stops; told = told } in
      let batches_are : (batches ++ batch_again batch runs) ++ batch ∷ []
      ≡ batches ++ batch_again batch (runs ++ run ∷ []) =
      append_assoc batches (batch_again batch runs) (batch ∷ [])
      ∙ ap (λ l. batches ++ l) (sym (batch_again_append batch runs run)) in
      let runs_are : (earlier ++ runs) ++ run ∷ [] ≡ earlier ++ (runs ++ run ∷ []) =
      append_assoc earlier runs (run ∷ []) in (
        runs ++ run ∷ [],
        told_after wire.notes (ScriptRunsReportCalls (batches ++ batch_again batch runs) (earlier ++ runs))
            (ScriptReportsCalls batch.accesses stops told)
            (ScriptRunsReportCalls (batches ++ batch_again batch (runs ++ run ∷ [])) (earlier ++ (runs ++ run ∷ [])))
            s u t (λ first next is more.
            subst (λ (l : List ScriptListed). ScriptRunsReportCalls l (earlier ++ (runs ++ run ∷ [])) (next ++ first))
            batches_are
            (subst (λ (l : List ScriptRun). ScriptRunsReportCalls ((batches ++ batch_again batch runs) ++ batch ∷ []) l
            (next ++ first)) runs_are (one_run batch run is more))) before
            (went_told wire (batch_bursts limits.bursts batch) batch.accesses limits.tries u stops told t went),
      )

-- where memory ran out, the calls so far are those that the reports of the runs so far tell
pub short_told : {W : Type 0} (wire : Ghosts W) (limits : Limits) (batches : List ScriptListed) (s t : W)
    (over : RanBatchesShort wire limits batches s t)
    → (more : List ScriptRun)
    × HostCalls wire.notes (ScriptRunsReportCalls (calls_of batches over.before.made
    ++ first_batch_again (drop (length over.before.made) batches) more) (runs_of over.before.made ++ more)) s t
short_told wire limits batches s t over =
    let made = over.before.made in
    let cut = over.refused in
    let calls : List ScriptListed = calls_of batches made in
    let whole = runs_append wire false (batch_bursts limits.bursts) limits s over.between calls
    (runs_of made) cut.between
    (batch_again over.batch cut.runs) cut.runs over.before.are over.all cut.earlier in
    let further = refused_told wire _ limits over.batch calls (runs_of made) cut.runs s cut.between t
    (runs_told wire false (batch_bursts limits.bursts) limits s (calls ++ batch_again over.batch cut.runs)
    (runs_of made ++ cut.runs) cut.between whole) cut.refused in (
      further.0,
      subst (λ (l : List ScriptListed). HostCalls wire.notes (ScriptRunsReportCalls (calls
          ++ first_batch_again l further.0) (runs_of made ++ further.0)) s t) (sym over.next) further.1,
    )

-- without runs nothing is called
pub none_told : (batches : List ScriptListed)
    → ScriptRunsReportCalls (calls_of batches [] ++ first_batch_again batches []) [] []
none_told [] = no_run
none_told (batch ∷ batches) = no_run
