use Rattle.std.proofs.Common.{◌≡◌, ◌∙◌, ap, ap₂, ℕ, Bool, List, Option, None, Result, Some, subst, sym}
use Rattle.std.specs.Prelude.{IfNone, IfSome}
use Rattle.swd_port.specs.declared.wire.Wire.{Ghosts}
use Rattle.swd_host.specs.Reports.{HostReport, host_report_of}
use Rattle.swd_script.specs.Readers.{script_batch_listed}
use Rattle.swd_script.specs.Scripts.{ScriptListed}
use Rattle.swd_run.specs.declared.limits.Limits.{Limits}
use Rattle.swd_run.specs.Reports.{IsBatchReported, ReportsBatchRunFrom, ReportWritesOn, script_run_report}
use Rattle.swd_run.specs.Sessions.{ScriptRun, unsent}
use Rattle.swd_run.proofs.UnfoldingLemmas.{cut_first, performed_once}
use Rattle.swd_run.proofs.batch_runs.report_batch.Goals as goal

-- what follows where there is nothing
if_none : {X P Q : Type 0} (answer : Option X) → (P → Q) → IfNone answer P → IfNone answer Q
if_none None f p = f p
if_none (Some x) f p = tt

-- what follows where there is something
if_some : {X : Type 0} {P Q : X → Type 0} (answer : Option X) → ((x : X) → P x → Q x) → IfSome answer P
    → IfSome answer Q
if_some None f p = tt
if_some (Some x) f p = f x p

pub returns-in-None-clause-cut : goal.returns-in-None-clause-cut
returns-in-None-clause-cut g c =
    if_none c.report_call.result
    (λ same. cut_first g.W.Wire c.args.options.opened c.args.options.limits
    (script_batch_listed c.args.batch.now) c.args.wire.now c.requires.batch c.report_call.new.wire (unsent same)
    (λ plain. same)) c.report_call.ensures.unsent

module _ {W : Type 0} (wire : Ghosts W) (opened : Bool)
    (limits : Limits) (batch : ScriptListed) (s t : W) (old new : Option (List ℕ)) (told : HostReport)
    (written : Result ℕ ℕ) where
  -- the report of one run is that of a batch that is no `until`
  reported_once : batch.until ≡ None
      → ReportsBatchRunFrom wire opened limits batch s t old new told written
      → IsBatchReported wire opened limits batch s t old new told written
  reported_once plain h =
      let (runs, last_is, reads, performs) = performed_once wire opened limits batch s h.run t plain h.goes
      in
      record {
        runs = runs;
        last = ap (λ (run : ScriptRun). run.told) last_is ∙ h.last;
        performs = performs;
        writes = subst (ReportWritesOn written old new)
            (ap₂ (λ (n : ℕ) (run : ScriptRun). script_run_report batch n run) (sym reads) (sym last_is)) h.writes;
      }

pub returns-in-None-clause-reported : goal.returns-in-None-clause-reported
returns-in-None-clause-reported g c =
    if_some c.report_call.result
    (λ reported h. reported_once g.W.Wire c.args.options.opened c.args.options.limits
    (script_batch_listed c.args.batch.now) c.args.wire.now c.report_call.new.wire
    (g.O.Write.contents c.args.report.now)
    (g.O.Write.contents c.report_call.new.report) (host_report_of reported.report) reported.written c.in-None.is h)
    c.report_call.ensures.reports
