use Rattle.std.proofs.Common.{◌≡◌, ◌∙◌, ◌+◌, ◌-◌, ◌*◌, ◌++◌, [], None, Some, ap, append_assoc, arith, refl, subst, sym}
use Rattle.std.proofs.lemmas.List.{append-nil}
use Rattle.std.proofs.lemmas.Result.{err_from_is_err_and}
use Rattle.swd_port.specs.PlainAnswers.{plain_reads}
use Rattle.swd_script.specs.Laws.{IsScriptBatch}
use Rattle.swd_script.specs.Readers.{script_batch_listed}
use Rattle.swd_image.specs.declared.fault.ImageFault.TheVariants.{Memory}
use Rattle.swd_image.specs.Reports.{ReportsTo}
use Rattle.swd_image.specs.Sessions.{more, none, image_words_read}
use Rattle.swd_image.proofs.CallLemmas.{fails_in, reads_more, stops_next}
use Rattle.swd_image.proofs.ListLemmas.{image_block_is_batch, image_reads_left, image_reads_split}
use Rattle.swd_image.proofs.ReportLemmas.{to_after, to_memory, to_nothing}
use Rattle.swd_image.proofs.reading.read_words.Goals as goal

pub loop-done-init : goal.loop-done-init
loop-done-init g c = record {
  read = record { answers = []; calls = none; told = c.new-words.ensures.items };
  reported = to_nothing g.W.Wire c.args.limits c.args.wire.now []
      (g.S.CallReports.held c.args.report.now) refl;
  few = omega arith;
  due = c.requires.due;
  plan = refl;
}

pub run_call-requires-clause-batch : goal.run_call-requires-clause-batch
run_call-requires-clause-batch g c =
    let at = c.args.first + 4 * c.loop-done.done in
    let many = c.min-many.result in
    let least = c.min-many.ensures in
    let end = c.requires.range in
    subst IsScriptBatch (sym c.in_ok-batch.ensures.batch)
    (image_block_is_batch at many (omega (arith, c.requires.aligned)) (omega (arith, least))
    (omega (arith, least, end)))

pub returns-in_err-answers-clause-fault : goal.returns-in_err-answers-clause-fault
returns-in_err-answers-clause-fault g c =
    let s = c.args.wire.now in
    let done = c.loop-done.done in
    let many = c.min-many.result in
    let batch = script_batch_listed c.in_ok-batch.batch in
    let least = c.min-many.ensures in
    let rest = plain_reads (c.args.first + 4 * done + 4 * many) (c.args.count - (done + many)) in
    let p = err_from_is_err_and c.from_residual-in_err-answers.result c.from_residual-in_err-answers.ensures.1 in
    rw (p.1, p.2) (fails_in g.W.Wire c.args.limits s c.loop-done.wire
    c.run_call.new.wire (plain_reads c.args.first done) batch.accesses rest (plain_reads c.args.first c.args.count)
    c.loop-done.invariant.read.answers _ c.loop-done.invariant.read.calls c.in_err-answers.ensures.fault
    (image_reads_left c.args.first done many c.args.count (omega (arith, least))
    ∙ ap (λ b. plain_reads c.args.first done ++ (b.accesses ++ rest)) (sym c.in_ok-batch.ensures.batch)))

pub returns-in_err-batch-clause-fault : goal.returns-in_err-batch-clause-fault
returns-in_err-batch-clause-fault g c =
    let done = c.loop-done.done in
    let many = c.min-many.result in
    let least = c.min-many.ensures in
    let at = c.args.first + 4 * done in
    let p = err_from_is_err_and c.from_residual.result c.from_residual.ensures.1 in
    rw (p.1, p.2, c.in_err-batch.ensures.fault) (stops_next g.W.Wire c.args.limits c.args.wire.now
    c.loop-done.wire (plain_reads c.args.first done)
    (plain_reads at many ++ plain_reads (at + 4 * many) (c.args.count - (done + many)))
    (plain_reads c.args.first c.args.count) c.loop-done.invariant.read.answers c.loop-done.invariant.read.calls
    (image_reads_left c.args.first done many c.args.count (omega (arith, least))))

pub returns-in_err-push_words-clause-fault : goal.returns-in_err-push_words-clause-fault
returns-in_err-push_words-clause-fault g c =
    let done = c.loop-done.done in
    let many = c.min-many.result in
    let batch = script_batch_listed c.in_ok-batch.batch in
    let (run, is, call, all, done_all) = c.in_ok-answers.ensures.call in
    let least = c.min-many.ensures in
    let before = plain_reads c.args.first done in
    let rest = plain_reads (c.args.first + 4 * done + 4 * many) (c.args.count - (done + many)) in
    let reads = c.loop-done.invariant.read in
    let p = err_from_is_err_and c.from_residual-in_err-push_words.result c.from_residual-in_err-push_words.ensures.1 in
    rw (p.1, p.2, c.in_err-push_words.ensures.fault) (stops_next g.W.Wire c.args.limits c.args.wire.now
    c.run_call.new.wire (before ++ batch.accesses) rest (plain_reads c.args.first c.args.count)
    (reads.answers ++ run.told.answers) (more reads.calls call all done_all)
    (image_reads_left c.args.first done many c.args.count (omega (arith, least))
    ∙ ap (λ b. before ++ (b.accesses ++ rest)) (sym c.in_ok-batch.ensures.batch)
    ∙ sym (append_assoc before batch.accesses rest)))

pub returns-in_err-batch-clause-report : goal.returns-in_err-batch-clause-report
returns-in_err-batch-clause-report g c =
    let done = c.loop-done.done in
    let many = c.min-many.result in
    let least = c.min-many.ensures in
    let at = c.args.first + 4 * done in
    let p = err_from_is_err_and c.from_residual.result c.from_residual.ensures.1 in
    rw (p.1, p.2, c.in_err-batch.ensures.fault) (to_memory g.W.Wire c.args.limits c.args.wire.now c.loop-done.wire
    (plain_reads c.args.first done)
    (plain_reads at many ++ plain_reads (at + 4 * many) (c.args.count - (done + many)))
    (plain_reads c.args.first c.args.count)
    (g.S.CallReports.held c.args.report.now) (g.S.CallReports.held c.loop-done.report)
    c.loop-done.invariant.reported (image_reads_left c.args.first done many c.args.count (omega (arith, least))))

pub returns-in_err-answers-clause-report : goal.returns-in_err-answers-clause-report
returns-in_err-answers-clause-report g c =
    let done = c.loop-done.done in
    let many = c.min-many.result in
    let batch = script_batch_listed c.in_ok-batch.batch in
    let least = c.min-many.ensures in
    let rest = plain_reads (c.args.first + 4 * done + 4 * many) (c.args.count - (done + many)) in
    let p = err_from_is_err_and c.from_residual-in_err-answers.result c.from_residual-in_err-answers.ensures.1 in
    rw (p.1, p.2) (to_after g.W.Wire c.args.limits c.args.wire.now
    c.loop-done.wire c.run_call.new.wire (plain_reads c.args.first done) batch.accesses rest
    (plain_reads c.args.first c.args.count) _ (g.S.CallReports.held c.args.report.now)
    (g.S.CallReports.held c.loop-done.report) (g.S.CallReports.held c.run_call.new.report)
    c.loop-done.invariant.reported c.in_err-answers.ensures.report
    (image_reads_left c.args.first done many c.args.count (omega (arith, least))
    ∙ ap (λ b. plain_reads c.args.first done ++ (b.accesses ++ rest)) (sym c.in_ok-batch.ensures.batch))
    (λ e. absurd cc))

pub returns-in_err-push_words-clause-report : goal.returns-in_err-push_words-clause-report
returns-in_err-push_words-clause-report g c =
    let done = c.loop-done.done in
    let many = c.min-many.result in
    let batch = script_batch_listed c.in_ok-batch.batch in
    let least = c.min-many.ensures in
    let rest = plain_reads (c.args.first + 4 * done + 4 * many) (c.args.count - (done + many)) in
    let before = g.S.CallReports.held c.loop-done.report in
    let after = g.S.CallReports.held c.run_call.new.report in
    let p = err_from_is_err_and c.from_residual-in_err-push_words.result c.from_residual-in_err-push_words.ensures.1 in
    rw (p.1, p.2, c.in_err-push_words.ensures.fault) (to_after g.W.Wire c.args.limits c.args.wire.now
    c.loop-done.wire c.run_call.new.wire (plain_reads c.args.first done) batch.accesses
    rest
    (plain_reads c.args.first c.args.count) (Some Memory) (g.S.CallReports.held c.args.report.now) before
    after c.loop-done.invariant.reported
    (to_memory g.W.Wire c.args.limits c.loop-done.wire
    c.run_call.new.wire batch.accesses [] batch.accesses before after c.in_ok-answers.ensures.report
    (sym (append-nil batch.accesses)))
    (image_reads_left c.args.first done many c.args.count (omega (arith, least))
    ∙ ap (λ b. plain_reads c.args.first done ++ (b.accesses ++ rest)) (sym c.in_ok-batch.ensures.batch))
    (λ e. absurd cc))

pub returns-clause-report : goal.returns-clause-report
returns-clause-report g c =
    let few = c.loop-done.invariant.few in
    let none = c.loop-done-test.false in
    let all : c.loop-done.done ≡ c.args.count = omega (arith, few, none) in
    subst (λ n. ReportsTo g.W.Wire c.args.limits
    (plain_reads c.args.first n) None c.args.wire.now c.loop-done.wire
    (g.S.CallReports.held c.args.report.now)
    (g.S.CallReports.held c.loop-done.report)) all c.loop-done.invariant.reported

pub loop-done-preserved : goal.loop-done-preserved
loop-done-preserved g c =
    let s = c.args.wire.now in
    let done = c.loop-done.done in
    let many = c.min-many.result in
    let at = c.args.first + 4 * done in
    let batch = script_batch_listed c.in_ok-batch.batch in
    let (run, is, call, all, done_all) = c.in_ok-answers.ensures.call in
    let least = c.min-many.ensures in
    record {
      read = reads_more g.W.Wire c.args.limits s c.loop-done.wire
          c.run_call.new.wire (plain_reads c.args.first done) c.loop-done.words.items c.push_words.new.words.items
          batch
          run (plain_reads c.args.first (done + many)) c.loop-done.invariant.read call all done_all
          (c.in_ok-push_words.ensures.pushed
          ∙ ap (λ l. c.loop-done.words.items ++ image_words_read l) (c.as_slice.ensures.value ∙ sym is))
          (image_reads_split c.args.first done many
          ∙ ap (λ b. plain_reads c.args.first done ++ b.accesses) (sym c.in_ok-batch.ensures.batch));
      reported = to_after g.W.Wire c.args.limits s c.loop-done.wire
          c.run_call.new.wire (plain_reads c.args.first done) batch.accesses [] (plain_reads c.args.first (done +
          many))
          None (g.S.CallReports.held c.args.report.now)
          (g.S.CallReports.held c.loop-done.report)
          (g.S.CallReports.held c.run_call.new.report) c.loop-done.invariant.reported
          c.in_ok-answers.ensures.report (image_reads_split c.args.first done many
          ∙ ap (λ b. plain_reads c.args.first done ++ b.accesses) (sym c.in_ok-batch.ensures.batch)
          ∙ ap (λ l. plain_reads c.args.first done ++ l) (sym (append-nil batch.accesses))) (λ e. refl);
      few = omega (arith, least);
      due = c.in_ok-answers.ensures.due;
      plan = c.in_ok-answers.ensures.plan ∙ c.loop-done.invariant.plan;
    }
