use Rattle.std.proofs.Common.{sym, subst, Option, Some, None, ◌≡◌}
use Rattle.swd_port.specs.declared.cue.Cue.{Cue}
use Rattle.swd_host.specs.Engines.{EngineHasCue}
use Rattle.swd_steps.specs.declared.run.Run.{Run as RunType}
use Rattle.swd_steps.specs.Failing.{SteppedFails}
use Rattle.swd_steps.specs.Runs.{stepped_run_cue}
use Rattle.swd_c.specs.Runs.{CApiFailRefusal, CApiHasRun, c_api_run_cue, fails_no_run, has_no_cue}
use Rattle.swd_c.proofs.run.swd_run_fail.Goals as goal

pub returns-in_default-clause-refused : goal.returns-in_default-clause-refused
returns-in_default-clause-refused c = λ h.
    subst (CApiFailRefusal c.args.run.now) (sym c.refusal.ensures)
    (fails_no_run (λ run is. absurd (let found = c.in_default.ensures.found run is in cc)))

pub returns-in_default-failed-clause-refused : goal.returns-in_default-failed-clause-refused
returns-in_default-failed-clause-refused c = λ h.
    subst (CApiFailRefusal c.args.run.now) (sym c.refused.ensures)
    (has_no_cue c.in-Some.before c.in-Some.ensures.same c.in_default-failed.ensures.none)

has_cue : (P Q : Cue → Type 0) (cue : Option Cue) → ((x : Cue) → P x → Q x) → EngineHasCue P cue → EngineHasCue Q cue
has_cue P Q None f h = h
has_cue P Q (Some x) f h = f x h

pub returns-clause-fails : goal.returns-clause-fails
returns-clause-fails c = λ before is done.
    let now = c.in-Some-failed.now in
    let found = c.in-Some.ensures.found before is in
    let same : c.in-Some.before ≡ before = cc in
    has_cue (λ cue. SteppedFails cue before now)
    (λ cue. CApiHasRun c.fields.result (λ now. SteppedFails cue before now × (c.of_run.result ≡ c_api_run_cue now)))
    (stepped_run_cue before)
    (λ cue fails. (now, sym c.fields.ensures, (fails, c.of_run.ensures)))
    (subst (λ (b : RunType). EngineHasCue (λ cue. SteppedFails cue b now) (stepped_run_cue b)) same
    c.in-Some-failed.ensures.fails)
