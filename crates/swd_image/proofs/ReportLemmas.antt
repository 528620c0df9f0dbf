-- The reports of calls, one after the other.
use Rattle.std.proofs.Common.{◌≡◌, ℕ, refl, sym, ap, subst, ◌∙◌, List, [], ◌++◌, append_assoc, Option, Some, None, Err}
use Rattle.std.specs.Prelude.{◌≢◌}
use Rattle.std.specs.Io.KnownBytes.{Appends}
use Rattle.std.proofs.KnownBytes.{Appends-nil, Appends-trans}
use Rattle.std.proofs.lemmas.List.{append-nil}
use Rattle.swd_io.specs.Blocks.{OutputStopped}
use Rattle.swd_port.specs.declared.access.Access.{Access}
use Rattle.swd_host.specs.declared.outcome.End.{End}
use Rattle.swd_host.specs.declared.outcome.End.TheVariants.{All}
use Rattle.swd_host.specs.Reports.{HostReport}
use Rattle.swd_script.specs.Laws.{IsScriptBatch}
use Rattle.swd_script.specs.Scripts.{ScriptListed}
use Rattle.swd_run.specs.Reports.{ReportsBatchRun, script_run_report}
use Rattle.swd_run.specs.Sessions.{ScriptRun}
use Rattle.swd_run.specs.declared.limits.Limits.{Limits}
use Rattle.swd_port.specs.declared.wire.Wire.{Ghosts}
use Rattle.swd_image.specs.declared.fault.ImageFault.{ImageFault}
use Rattle.swd_image.specs.declared.fault.ImageFault.TheVariants.{Memory, Report, Stopped as StoppedAt}
use Rattle.swd_image.specs.Reports.{MakesOne, Reported, Reports, ReportsTo, none, more}
use Rattle.swd_image.specs.Sessions.{Call}

-- no fault is not this one
no_fault : (fault : ImageFault) → None ≢ Some fault
no_fault fault e = cc

pub image_memory_not_report : Some Memory ≢ Some Report
image_memory_not_report e = cc

module _ {W : Type 0} (wire : Ghosts W) (limits : Limits) where
  reported_append : (s t u : W) (ended : End) (xs ys : List Access) (vs ws : List ℕ)
      → Reported wire limits s All xs vs t → Reported wire limits t ended ys ws u
      → Reported wire limits s ended (xs ++ ys) (vs ++ ws) u
  reported_append s t u ended xs ys vs ws h none =
      subst (λ l. Reported wire limits s All l (vs ++ []) t) (sym (append-nil xs))
      (subst (λ l. Reported wire limits s All xs l t) (sym (append-nil vs)) h)
  reported_append s t u ended xs ys vs ws h
      (more {list = list} {text = text} {t = r} {u = v} {batch = batch} {run = run} before call plain) =
      subst (λ l. Reported wire limits s run.told.ended l
      (vs ++ (text ++ script_run_report batch 1 run)) v) (append_assoc xs list batch.accesses)
      (subst (λ l. Reported wire limits s run.told.ended ((xs ++ list) ++ batch.accesses) l v)
      (append_assoc vs text (script_run_report batch 1 run))
      (more (reported_append s t r All xs list vs text h before) call plain))

  -- ---- of a writer

  reports_after : (s t u : W) (xs ys zs list : List Access) (fault : Option ImageFault) (a b c : Option (List ℕ))
      → Reports wire limits xs None s t a b → Reports wire limits ys fault t u b c
      → list ≡ xs ++ (ys ++ zs) → (fault ≡ None → zs ≡ [])
      → Reports wire limits list fault s u a c
  reports_after s t u xs ys zs list fault a b c h g is last =
      let all = h.whole refl in
      let made : xs ≡ h.made = h.split ∙ ap (λ l. h.made ++ l) all.0 ∙ append-nil h.made in
      let first = h.writes (no_fault Report) in
      let calls = subst (λ e. Reported wire limits s e h.made h.text t) all.1 h.calls in
      record {
        ended = g.ended;
        made = h.made ++ g.made;
        rest = g.rest ++ zs;
        text = h.text ++ g.text;
        calls = reported_append s t u g.ended h.made g.made h.text g.text calls g.calls;
        split = is ∙ ap (λ l. l ++ (ys ++ zs)) made ∙ ap (λ l. h.made ++ (l ++ zs)) g.split
            ∙ ap (λ l. h.made ++ l) (append_assoc g.made g.rest zs) ∙ sym (append_assoc h.made g.made (g.rest ++ zs));
        whole = λ e. (ap (λ l. l ++ zs) (g.whole e).0 ∙ last e, (g.whole e).1);
        stopped = g.stopped;
        writes = λ e. Appends-trans a b c h.text g.text first (g.writes e);
        fails = λ e. (let stop = g.fails e in record {
          list = h.made ++ stop.list;
          before = h.text ++ stop.before;
          reached = stop.reached;
          calls = reported_append s t stop.reached All h.made stop.list h.text stop.before calls stop.calls;
          batch = stop.batch;
          run = stop.run;
          last = stop.last;
          is = ap (λ l. h.text ++ l) stop.is ∙ sym
              (append_assoc h.text stop.before (script_run_report stop.batch 1 stop.run));
          middle = stop.middle;
          gone = Appends-trans a b stop.middle h.text stop.before first stop.gone;
          told = stop.told;
          stops = stop.stops;
        });
      }

  -- without a call nothing was written
  reports_none : (s : W) (list : List Access) (fault : Option ImageFault) (a : Option (List ℕ))
      → (fault ≡ None → list ≡ []) → ((end : End) → fault ≢ Some (StoppedAt end)) → fault ≢ Some Report
      → Reports wire limits list fault s s a a
  reports_none s list fault a empty running other = record {
    ended = All;
    made = [];
    rest = list;
    text = [];
    calls = none;
    split = refl;
    whole = λ e. (empty e, refl);
    stopped = λ end e. absurd (running end e);
    writes = λ e. Appends-nil a;
    fails = λ e. absurd (other e);
  }

  -- one call
  reports_one : (s t : W) (batch : ScriptListed) (run : ScriptRun) (fault : Option ImageFault) (a b : Option (List ℕ))
      → Call wire limits batch s run t → batch.until ≡ None
      → (fault ≡ None → run.told.ended ≡ All) → ((end : End) → fault ≡ Some (StoppedAt end) → run.told.ended ≡ end)
      → (fault ≢ Some Report → Appends a b (script_run_report batch 1 run))
      → (fault ≡ Some Report → (told : ℕ) × OutputStopped told a b (script_run_report batch 1 run))
      → Reports wire limits batch.accesses fault s t a b
  reports_one s t batch run fault a b call plain all stopped writes fails = record {
    ended = run.told.ended;
    made = batch.accesses;
    rest = [];
    text = script_run_report batch 1 run;
    calls = more none call plain;
    split = sym (append-nil batch.accesses);
    whole = λ e. (refl, all e);
    stopped = stopped;
    writes = writes;
    fails = λ e. record {
      list = [];
      before = [];
      reached = s;
      calls = none;
      batch = batch;
      run = run;
      last = call;
      is = refl;
      middle = a;
      gone = Appends-nil a;
      told = (fails e).0;
      stops = (fails e).1;
    };
  }

  -- ---- of an optional writer

  -- calls for a list, after those for another one; `zs` was in no call
  pub to_after : (s t u : W) (xs ys zs list : List Access) (fault : Option ImageFault)
      (a b c : Option (Option (List ℕ))) → ReportsTo wire limits xs None s t a b
      → ReportsTo wire limits ys fault t u b c
      → list ≡ xs ++ (ys ++ zs) → (fault ≡ None → zs ≡ [])
      → ReportsTo wire limits list fault s u a c
  to_after s t u xs ys zs list fault None b c h g is last =
      subst (λ x. ReportsTo wire limits ys fault t u x c) h.0 g
  to_after s t u xs ys zs list fault (Some start) b c h g is last =
      let later = subst (λ x. ReportsTo wire limits ys fault t u x c) h.1 g in
      (later.0, later.1, reports_after s t u xs ys zs list fault start h.0 later.0 h.2 later.2 is last)

  -- no call
  pub to_none : (s : W) (list : List Access) (fault : Option ImageFault) (a : Option (Option (List ℕ)))
      → (fault ≡ None → list ≡ []) → ((end : End) → fault ≢ Some (StoppedAt end)) → fault ≢ Some Report
      → ReportsTo wire limits list fault s s a a
  to_none s list fault None empty running other = (refl, other)
  to_none s list fault (Some start) empty running other =
      (start, refl, reports_none s list fault start empty running other)

  -- no access, and no call
  pub to_nothing : (s : W) (list : List Access) (a : Option (Option (List ℕ))) → list ≡ []
      → ReportsTo wire limits list None s s a a
  to_nothing s list a empty = to_none s list None a (λ e. empty) (λ end e. no_fault (StoppedAt end) e) (no_fault
      Report)

  -- memory ran out before a call
  pub to_unmade : (s : W) (list : List Access) (a : Option (Option (List ℕ)))
      → ReportsTo wire limits list (Some Memory) s s a a
  to_unmade s list a =
      to_none s list (Some Memory) a (λ e. absurd (no_fault Memory (sym e))) (λ end e. cc) image_memory_not_report

  -- memory ran out after calls for the first part of a list
  pub to_memory : (s t : W) (xs ys list : List Access) (a b : Option (Option (List ℕ)))
      → ReportsTo wire limits xs None s t a b → list ≡ xs ++ ys
      → ReportsTo wire limits list (Some Memory) s t a b
  to_memory s t xs ys list a b h is =
      to_after s t t xs ys [] list (Some Memory) a b b h (to_unmade t ys b)
      (is ∙ ap (λ l. xs ++ l) (sym (append-nil ys))) (λ e. refl)

  -- calls for the first part of a list, that ended at a fault
  pub to_front : (s t : W) (xs ys list : List Access) (fault : ImageFault) (a b : Option (Option (List ℕ)))
      → ReportsTo wire limits xs (Some fault) s t a b → list ≡ xs ++ ys
      → ReportsTo wire limits list (Some fault) s t a b
  to_front s t xs ys list fault a b h is =
      to_after s s t [] xs ys list (Some fault) a a b (to_nothing s [] a refl) h is
      (λ e. absurd (no_fault fault (sym e)))

  -- one call with this report, of which the writer got all
  pub to_one : (s t : W) (batch : ScriptListed) (told : HostReport) (fault : Option ImageFault)
      (a b : Option (Option (List ℕ))) → MakesOne wire limits batch s t told a b → batch.until ≡ None
      → (fault ≡ None → told.ended ≡ All) → ((end : End) → fault ≡ Some (StoppedAt end) → told.ended ≡ end)
      → fault ≢ Some Report
      → ReportsTo wire limits batch.accesses fault s t a b
  to_one s t batch told fault None b h plain all stopped other = (h.writes, other)
  to_one s t batch told fault (Some start) b h plain all stopped other =
      let ended = ap (λ (x : HostReport). x.ended) h.last in (
        h.writes.0,
        h.writes.1,
        reports_one s t batch h.run fault start h.writes.0 h.call plain (λ e. ended ∙ all e)
            (λ end e. ended ∙ stopped end e) (λ e. h.writes.2) (λ e. absurd (other e)),
      )

  -- one call of which the writer got the first bytes alone
  pub to_failed : (s t : W) (batch : ScriptListed) (told : HostReport) (sent : ℕ) (start now : Option (List ℕ))
      → ReportsBatchRun wire limits batch s t
      start now
      told (Err sent) → batch.until ≡ None
      → IsScriptBatch batch
      → ReportsTo wire limits batch.accesses (Some Report) s t (Some start) (Some now)
  to_failed s t batch told sent start now h plain fits = (
    now,
    refl,
    reports_one s t batch h.run (Some Report) start now (record { fits = fits; goes = h.goes }) plain
        (λ e. absurd (no_fault Report (sym e))) (λ end e. cc) (λ e. absurd (e refl)) (λ e. (sent, h.writes)),
  )
