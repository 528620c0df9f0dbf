use Rattle.std.proofs.Common.{ap, sym, subst, ◌∙◌}
use Rattle.std.specs.Prelude.{option_map}
use Rattle.swd_host.specs.declared.outcome.Outcome.TheVariants.{Stopped}
use Rattle.swd_steps.specs.Runs.{stepped_run_end, stepped_run_cue}
use Rattle.swd_c.specs.declared.cue.SwdCue.{SwdCue}
use Rattle.swd_c.specs.Runs.{CApiListRefusal, c_api_accesses, refused_list}
use Rattle.swd_c.proofs.Cues.{c_api_cue_never_refusal}
use Rattle.swd_c.proofs.Refusals.{c_api_refused_index_is_small}
use Rattle.swd_c.proofs.run.swd_run_opened.Goals as goal

pub refused_for-requires : goal.refused_for-requires
refused_for-requires c =
    c_api_refused_index_is_small (c_api_accesses c.args.accesses.now) c.in-Err.refusal c.in-Err.ensures.refused

pub returns-in-Err-clause-refused : goal.returns-in-Err-clause-refused
returns-in-Err-clause-refused c = λ h.
    subst (CApiListRefusal c.args.accesses.now) (sym c.refused_for.ensures)
    (refused_list c.in-Err.refusal c.in-Err.ensures.refused)

pub returns-in-Ok-clause-same : goal.returns-in-Ok-clause-same
returns-in-Ok-clause-same c = λ h.
    let now = c.in-Ok.now in
    absurd (c_api_cue_never_refusal (stepped_run_cue now) (option_map Stopped (stepped_run_end now))
    (ap (λ (x : SwdCue). x.kind) (sym c.of_run.ensures) ∙ h))
