use Rattle.std.proofs.Common.{arith, ap, sym, subst, ◌∙◌, length}
use Rattle.std.specs.Prelude.{option_map}
use Rattle.swd_host.specs.declared.outcome.Outcome.TheVariants.{Stopped}
use Rattle.swd_steps.specs.Runs.{stepped_run_end, stepped_run_cue}
use Rattle.swd_c.specs.declared.cue.SwdCue.{SwdCue}
use Rattle.swd_c.specs.Runs.{CApiRunRefusal, no_room, no_run, refused}
use Rattle.swd_c.proofs.Cues.{c_api_cue_never_refusal}
use Rattle.swd_c.proofs.run.swd_run_next.Goals as goal

pub returns-in_default-clause-refused : goal.returns-in_default-clause-refused
returns-in_default-clause-refused c = λ h.
    subst (CApiRunRefusal c.args.run.now c.args.accesses.now c.args.reply (length c.args.answers.now))
    (sym c.refusal.ensures) (no_run (λ run is. absurd (let found = c.in_default.ensures.found run is in cc)))

pub returns-then-answers-accesses-clause-refused : goal.returns-then-answers-accesses-clause-refused
returns-then-answers-accesses-clause-refused c = λ h.
    subst (CApiRunRefusal c.args.run.now c.args.accesses.now c.args.reply (length c.args.answers.now))
    (sym c.refused.ensures) (no_room (omega (arith, c.if-answers-accesses.true)))

pub returns-in-Err-clause-refused : goal.returns-in-Err-clause-refused
returns-in-Err-clause-refused c = λ h.
    subst (CApiRunRefusal c.args.run.now c.args.accesses.now c.args.reply (length c.args.answers.now))
    (sym c.refused_for.ensures)
    (refused c.in-Some.now c.in-Err.refusal c.in-Some.ensures.same c.in-Err.ensures.refused)

pub returns-in-Ok-clause-same : goal.returns-in-Ok-clause-same
returns-in-Ok-clause-same c = λ h.
    let now = c.next.new.self in
    absurd (c_api_cue_never_refusal (stepped_run_cue now) (option_map Stopped (stepped_run_end now))
    (ap (λ (x : SwdCue). x.kind) (sym c.of_run.ensures) ∙ h))
