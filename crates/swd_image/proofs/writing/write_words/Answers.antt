use Rattle.std.proofs.Common.{◌≡◌, ◌≤◌, ◌∙◌, ℕ, ◌+◌, ◌-◌, ◌*◌, ◌++◌, [], None, ap, arith, refl, subst, sym}
use Rattle.std.proofs.lemmas.List.{append-nil}
use Rattle.std.proofs.lemmas.Result.{err_from_is_err_and}
use Rattle.swd_script.specs.Laws.{IsScriptBatch}
use Rattle.swd_script.specs.Scripts.{ScriptListed}
use Rattle.swd_script.specs.Readers.{script_batch_listed}
use Rattle.swd_image.specs.Reports.{ReportsTo}
use Rattle.swd_image.specs.Lists.{image_loaded_word, image_writes}
use Rattle.swd_image.specs.Sessions.{none}
use Rattle.swd_image.proofs.CallLemmas.{fails_in, made_more, stops_next}
use Rattle.swd_image.proofs.ListLemmas.{image_writes_are_batch, image_writes_left, image_writes_split}
use Rattle.swd_image.proofs.ReportLemmas.{to_after, to_memory, to_nothing}
use Rattle.swd_image.proofs.writing.write_words.Goals as goal

pub loop-done-init : goal.loop-done-init
loop-done-init g c = record {
  made = record { answers = []; calls = none };
  reported = to_nothing g.W.Wire c.args.limits c.args.wire.now []
      (g.S.CallReports.held c.args.report.now) refl;
  few = omega arith;
  due = c.requires.due;
  plan = refl;
}

pub run_call-requires-clause-batch : goal.run_call-requires-clause-batch
run_call-requires-clause-batch g c =
    let image = c.args.image.now in
    let word = image_loaded_word image.addr image.bytes.now image.edges.head image.edges.tail in
    let least = c.min-many.ensures in
    subst IsScriptBatch (sym c.in_ok-batch.ensures.batch)
    (image_writes_are_batch word (image.first + 4 * c.loop-done.done) c.min-many.result
    (omega (arith, c.requires.aligned)) (omega (arith, least)))

-- all writes, by the batch that was made of the next ones
by_batch : (word : ℕ → ℕ) (first done many count : ℕ) (batch : ScriptListed)
    → batch ≡ record { accesses = image_writes word (first + 4 * done) many; block = None; expected = []; until = None }
    → done + many ≤ count → image_writes word first count ≡ image_writes word first done
    ++ (batch.accesses ++ image_writes word (first + 4 * done + 4 * many) (count - (done + many)))
by_batch word first done many count batch e l =
    image_writes_left word first done many count l
    ∙ ap (λ b. image_writes word first done
    ++ (b.accesses ++ image_writes word (first + 4 * done + 4 * many) (count - (done + many)))) (sym e)

pub returns-in_err-run_call-clause-fault : goal.returns-in_err-run_call-clause-fault
returns-in_err-run_call-clause-fault g c =
    let least = c.min-many.ensures in
    let p = err_from_is_err_and c.from_residual-in_err-run_call.result c.from_residual-in_err-run_call.ensures.1 in
    rw (p.1, p.2) (fails_in g.W.Wire c.args.limits c.args.wire.now c.loop-done.wire c.run_call.new.wire _ _ _ _
    c.loop-done.invariant.made.answers _ c.loop-done.invariant.made.calls c.in_err-run_call.ensures.fault
    (by_batch _ _ _ _ _ _ c.in_ok-batch.ensures.batch (omega (arith, least))))

pub returns-in_err-batch-clause-fault : goal.returns-in_err-batch-clause-fault
returns-in_err-batch-clause-fault g c =
    let least = c.min-many.ensures in
    let p = err_from_is_err_and c.from_residual.result c.from_residual.ensures.1 in
    rw (p.1, p.2, c.in_err-batch.ensures.fault) (stops_next g.W.Wire c.args.limits c.args.wire.now c.loop-done.wire
    _ _ _ c.loop-done.invariant.made.answers c.loop-done.invariant.made.calls
    (image_writes_left _ c.args.image.now.first c.loop-done.done c.min-many.result c.args.image.now.count
    (omega (arith, least))))

pub returns-in_err-batch-clause-report : goal.returns-in_err-batch-clause-report
returns-in_err-batch-clause-report g c =
    let least = c.min-many.ensures in
    let p = err_from_is_err_and c.from_residual.result c.from_residual.ensures.1 in
    rw (p.1, p.2, c.in_err-batch.ensures.fault) (to_memory g.W.Wire c.args.limits c.args.wire.now c.loop-done.wire
    _ _ _ _ _ c.loop-done.invariant.reported
    (image_writes_left _ c.args.image.now.first c.loop-done.done c.min-many.result c.args.image.now.count
    (omega (arith, least))))

pub returns-in_err-run_call-clause-report : goal.returns-in_err-run_call-clause-report
returns-in_err-run_call-clause-report g c =
    let least = c.min-many.ensures in
    let p = err_from_is_err_and c.from_residual-in_err-run_call.result c.from_residual-in_err-run_call.ensures.1 in
    rw (p.1, p.2) (to_after g.W.Wire c.args.limits c.args.wire.now c.loop-done.wire c.run_call.new.wire _ _ _ _ _ _ _ _
    c.loop-done.invariant.reported c.in_err-run_call.ensures.report
    (by_batch _ _ _ _ _ _ c.in_ok-batch.ensures.batch (omega (arith, least))) (λ e. absurd cc))

pub returns-clause-report : goal.returns-clause-report
returns-clause-report g c =
    let image = c.args.image.now in
    let word = image_loaded_word image.addr image.bytes.now image.edges.head image.edges.tail in
    let few = c.loop-done.invariant.few in
    let none = c.loop-done-test.false in
    let all : c.loop-done.done ≡ image.count = omega (arith, few, none) in
    subst (λ n. ReportsTo g.W.Wire c.args.limits
    (image_writes word image.first n) None c.args.wire.now c.loop-done.wire
    (g.S.CallReports.held c.args.report.now)
    (g.S.CallReports.held c.loop-done.report)) all c.loop-done.invariant.reported

pub loop-done-preserved : goal.loop-done-preserved
loop-done-preserved g c =
    let image = c.args.image.now in
    let word = image_loaded_word image.addr image.bytes.now image.edges.head image.edges.tail in
    let done = c.loop-done.done in
    let many = c.min-many.result in
    let least = c.min-many.ensures in
    let batch = script_batch_listed c.in_ok-batch.batch in
    let (run, is, call, all, done_all) = c.in_ok-run_call.ensures.call in
    record {
      made = made_more g.W.Wire c.args.limits c.args.wire.now
          c.loop-done.wire c.run_call.new.wire (image_writes word image.first done) batch run
          (image_writes word image.first (done + many)) c.loop-done.invariant.made call all done_all
          (image_writes_split word image.first done many
          ∙ ap (λ b. image_writes word image.first done ++ b.accesses) (sym c.in_ok-batch.ensures.batch));
      reported = to_after g.W.Wire c.args.limits c.args.wire.now
          c.loop-done.wire c.run_call.new.wire (image_writes word image.first done) batch.accesses []
          (image_writes word image.first (done + many)) None (g.S.CallReports.held c.args.report.now)
          (g.S.CallReports.held c.loop-done.report) (g.S.CallReports.held c.run_call.new.report)
          c.loop-done.invariant.reported c.in_ok-run_call.ensures.report (image_writes_split word
          image.first done many
          ∙ ap (λ b. image_writes word image.first done ++ b.accesses) (sym c.in_ok-batch.ensures.batch)
          ∙ ap (λ l. image_writes word image.first done ++ l) (sym (append-nil batch.accesses))) (λ e.
          refl);
      few = omega (arith, least);
      due = c.in_ok-run_call.ensures.due;
      plan = c.in_ok-run_call.ensures.plan ∙ c.loop-done.invariant.plan;
    }
