use Rattle.std.proofs.Common.{◌∙◌, ap, refl, sym}
use Rattle.std.specs.Prelude.{◌||◌}
use Rattle.swd_script.specs.Readers.{script_batch_listed}
use Rattle.swd_run.specs.Unfoldings.{until_never_came}
use Rattle.swd_run.specs.Verified.{verify_difference_in, report_has_bus_fault, verify_or_else}
use Rattle.swd_run.proofs.Reported.{script_finished_next_batch}
use Rattle.swd_run.proofs.engine.Finished.and.Goals as goal

pub returns-clause-finished : goal.returns-clause-finished
returns-clause-finished g c = λ batches made runs unfolds fits are last is.
    let before = c.args.self in
    let batch = c.args.batch.now in
    let told = sym last in
    script_finished_next_batch before _ (script_batch_listed batch) runs fits are (ap (λ told. told.ended) told)
    (c.never_came.ensures ∙ ap (λ told. until_never_came batch.until told) told)
    (c.or_difference_in.ensures
    ∙ ap (λ reads. verify_or_else before.differs (verify_difference_in reads c.as_slice-answers.result.now))
    c.as_slice-reads.ensures.value
    ∙ ap (λ answers. verify_or_else before.differs (verify_difference_in batch.expected.items answers))
    (c.as_slice-answers.ensures.value ∙ ap (λ told. told.answers) told))
    (c.or_bus_fault.ensures
    ∙ ap (λ answers. before.bus_fault || report_has_bus_fault answers)
    (c.as_slice-answers.ensures.value ∙ ap (λ told. told.answers) told)) refl batches made unfolds is
