use Rattle.std.proofs.Common.{Err, ◌≡◌, ◌∙◌, ◌+◌, ◌∷◌, ◌++◌, [], Bool, true, false, map, take, drop, suc, refl, sym, ap}
use Rattle.std.proofs.Common.{subst, arith}
use Rattle.swd_script.specs.Readers.{script_batch_listed}
use Rattle.swd_script.specs.Laws.{IsScriptBatch}
use Rattle.swd_host.specs.Reports.{host_report_of}
use Rattle.swd_run.specs.declared.fault.EngineFault.TheVariants.{Memory}
use Rattle.swd_run.specs.Engine.{BatchAnswers}
use Rattle.swd_run.specs.Records.{no_run_files}
use Rattle.swd_run.specs.Reports.{ReportWritesOn, batch_report}
use Rattle.swd_run.proofs.Reported.{all_told, none_yet, one_more, refused_next, stopped_in}
use Rattle.swd_run.proofs.SessionLemmas.{each_batch_at, due_then, batch_map_drop_next, batch_map_length}
use Rattle.swd_run.proofs.SessionLemmas.{batch_map_take_next}
use Rattle.swd_run.proofs.engine.run_reported.Goals as goal

apart : {P : Type 0} (b : Bool) → b ≡ true → b ≡ false → P
apart b e f = absurd cc

pub report_batch-requires-clause-batch : goal.report_batch-requires-clause-batch
report_batch-requires-clause-batch g c =
    each_batch_at IsScriptBatch script_batch_listed c.args.batches.now c.loop-batch.batch-index c.batch-item.result
    c.requires.batches c.batch-item.is c.loop-batch-test.true

pub loop-batch-init : goal.loop-batch-init
loop-batch-init g c = record {
  so_far = none_yet g.W.Wire c.args.limits
      (map script_batch_listed c.args.batches.now) c.args.wire.now (g.O.Write.contents c.args.report.now) _
      (record { ended = refl; never_came = refl; differs = refl; bus_fault = refl; full = refl });
  all = refl;
  came = refl;
  low = omega arith;
  due = c.requires.due;
  plan = refl;
}

-- memory was refused
pub returns-in_default-clause-answer : goal.returns-in_default-clause-answer
returns-in_default-clause-answer g c =
    let batches = c.args.batches.now in
    let i = c.loop-batch.batch-index in
    let batch = c.batch-item.result in
    let many = batch_map_length script_batch_listed batches in
    let low = c.loop-batch-test.true in
    subst (λ now. BatchAnswers g.W.Wire c.args.limits
    (map script_batch_listed batches) c.args.wire.now c.report_batch.new.wire (Err Memory)
    (g.O.Write.contents c.args.report.now) now no_run_files no_run_files) (sym c.in_default.ensures.unwritten)
    (refused_next g.W.Wire c.args.limits
    (map script_batch_listed batches) c.args.wire.now (g.O.Write.contents c.args.report.now) i c.loop-batch.wire
    (g.O.Write.contents c.loop-batch.report) c.loop-batch.finished c.loop-batch.written c.loop-batch.opened
    c.loop-batch.invariant.so_far
    c.loop-batch.invariant.all c.loop-batch.invariant.came (omega (arith, many, low)) (script_batch_listed batch)
    (drop (suc i) (map script_batch_listed batches)) (batch_map_drop_next script_batch_listed batches i batch low ∙ ap
    (λ b. script_batch_listed b ∷ drop (suc i) (map script_batch_listed batches)) (sym c.batch-item.is))
    c.report_batch.new.wire c.in_default.ensures.cut)

-- the report's writer failed
pub returns-in-Err-clause-answer : goal.returns-in-Err-clause-answer
returns-in-Err-clause-answer g c =
    let batches = c.args.batches.now in
    let i = c.loop-batch.batch-index in
    let batch = c.batch-item.result in
    let many = batch_map_length script_batch_listed batches in
    let low = c.loop-batch-test.true in
    let done = c.in-Some.ensures.reported in
    stopped_in g.W.Wire c.args.limits (map script_batch_listed batches)
    c.args.wire.now (g.O.Write.contents c.args.report.now) i c.loop-batch.wire
    (g.O.Write.contents c.loop-batch.report) c.loop-batch.finished c.loop-batch.written c.loop-batch.opened
    c.loop-batch.invariant.so_far
    c.loop-batch.invariant.all c.loop-batch.invariant.came (script_batch_listed batch)
    (batch_map_take_next script_batch_listed batches i batch low ∙ ap
    (λ b. take i (map script_batch_listed batches) ++ script_batch_listed b ∷ [])
    (sym c.batch-item.is))
    done.runs c.report_batch.new.wire done.performs (host_report_of c.in-Some.reported.report) done.last
    (g.O.Write.contents c.report_batch.new.report) c.in-Err.more c.saturating_add-written-in-Err.result
    (omega (arith, many, low))
    (subst (λ r. ReportWritesOn r (g.O.Write.contents c.loop-batch.report)
    (g.O.Write.contents c.report_batch.new.report)
    (batch_report (script_batch_listed batch) done.runs)) c.in-Err.is done.writes)
    c.saturating_add-written-in-Err.ensures

-- the run did not end all
pub returns-in_default-ended-clause-answer : goal.returns-in_default-ended-clause-answer
returns-in_default-ended-clause-answer g c =
    let batches = c.args.batches.now in
    let i = c.loop-batch.batch-index in
    let batch = c.batch-item.result in
    let many = batch_map_length script_batch_listed batches in
    let low = c.loop-batch-test.true in
    let fits = each_batch_at IsScriptBatch script_batch_listed batches i batch c.requires.batches c.batch-item.is low in
    let done = c.in-Some.ensures.reported in
    let so_far = one_more g.W.Wire c.args.limits
    (map script_batch_listed batches) c.args.wire.now (g.O.Write.contents c.args.report.now) i c.loop-batch.wire
    (g.O.Write.contents c.loop-batch.report) c.loop-batch.finished c.loop-batch.written c.loop-batch.opened
    c.loop-batch.invariant.so_far
    c.loop-batch.invariant.all c.loop-batch.invariant.came (script_batch_listed batch)
    (batch_map_take_next script_batch_listed batches i batch low ∙ ap
    (λ b. take i (map script_batch_listed batches) ++ script_batch_listed b ∷ [])
    (sym c.batch-item.is))
    done.runs c.report_batch.new.wire done.performs (host_report_of c.in-Some.reported.report) done.last
    (g.O.Write.contents c.report_batch.new.report) c.in-Ok.more c.saturating_add-written.result
    (subst (λ r. ReportWritesOn r (g.O.Write.contents c.loop-batch.report)
    (g.O.Write.contents c.report_batch.new.report)
    (batch_report (script_batch_listed batch) done.runs)) c.in-Ok.is done.writes)
    c.saturating_add-written.ensures fits c.and-finished.result c.and-finished.ensures.finished in
    all_told g.W.Wire c.args.limits (map script_batch_listed batches)
    c.args.wire.now (g.O.Write.contents c.args.report.now) (i + 1) c.report_batch.new.wire
    (g.O.Write.contents c.report_batch.new.report) c.and-finished.result c.saturating_add-written.result true so_far
    (omega (arith, many, low)) (λ all came. absurd (c.in_default-ended.not-All all))

-- the word of an `until` never came
pub returns-then-finished-clause-answer : goal.returns-then-finished-clause-answer
returns-then-finished-clause-answer g c =
    let batches = c.args.batches.now in
    let i = c.loop-batch.batch-index in
    let batch = c.batch-item.result in
    let many = batch_map_length script_batch_listed batches in
    let low = c.loop-batch-test.true in
    let fits = each_batch_at IsScriptBatch script_batch_listed batches i batch c.requires.batches c.batch-item.is low in
    let done = c.in-Some.ensures.reported in
    let so_far = one_more g.W.Wire c.args.limits
    (map script_batch_listed batches) c.args.wire.now (g.O.Write.contents c.args.report.now) i c.loop-batch.wire
    (g.O.Write.contents c.loop-batch.report) c.loop-batch.finished c.loop-batch.written c.loop-batch.opened
    c.loop-batch.invariant.so_far
    c.loop-batch.invariant.all c.loop-batch.invariant.came (script_batch_listed batch)
    (batch_map_take_next script_batch_listed batches i batch low ∙ ap
    (λ b. take i (map script_batch_listed batches) ++ script_batch_listed b ∷ [])
    (sym c.batch-item.is))
    done.runs c.report_batch.new.wire done.performs (host_report_of c.in-Some.reported.report) done.last
    (g.O.Write.contents c.report_batch.new.report) c.in-Ok.more c.saturating_add-written.result
    (subst (λ r. ReportWritesOn r (g.O.Write.contents c.loop-batch.report)
    (g.O.Write.contents c.report_batch.new.report)
    (batch_report (script_batch_listed batch) done.runs)) c.in-Ok.is done.writes)
    c.saturating_add-written.ensures fits c.and-finished.result c.and-finished.ensures.finished in
    all_told g.W.Wire c.args.limits (map script_batch_listed batches)
    c.args.wire.now (g.O.Write.contents c.args.report.now) (i + 1) c.report_batch.new.wire
    (g.O.Write.contents c.report_batch.new.report) c.and-finished.result c.saturating_add-written.result true so_far
    (omega (arith, many, low)) (λ all came. apart c.and-finished.result.never_came c.if-finished.true came)

pub returns-in_default-ended-clause-plan : goal.returns-in_default-ended-clause-plan
returns-in_default-ended-clause-plan g c = c.in-Some.ensures.plan ∙ c.loop-batch.invariant.plan

pub loop-batch-preserved : goal.loop-batch-preserved
loop-batch-preserved g c =
    let batches = c.args.batches.now in
    let i = c.loop-batch.batch-index in
    let batch = c.batch-item.result in
    let low = c.loop-batch-test.true in
    let fits = each_batch_at IsScriptBatch script_batch_listed batches i batch c.requires.batches c.batch-item.is low in
    let done = c.in-Some.ensures.reported in
    record {
      so_far = one_more g.W.Wire c.args.limits
          (map script_batch_listed batches) c.args.wire.now (g.O.Write.contents c.args.report.now) i c.loop-batch.wire
          (g.O.Write.contents c.loop-batch.report) c.loop-batch.finished c.loop-batch.written c.loop-batch.opened
          c.loop-batch.invariant.so_far
          c.loop-batch.invariant.all c.loop-batch.invariant.came (script_batch_listed batch)
          (batch_map_take_next script_batch_listed batches i batch low ∙ ap
          (λ b. take i (map script_batch_listed batches) ++ script_batch_listed b ∷ [])
          (sym c.batch-item.is))
          done.runs c.report_batch.new.wire done.performs (host_report_of c.in-Some.reported.report) done.last
          (g.O.Write.contents c.report_batch.new.report) c.in-Ok.more c.saturating_add-written.result
          (subst (λ r. ReportWritesOn r (g.O.Write.contents c.loop-batch.report)
          (g.O.Write.contents c.report_batch.new.report)
          (batch_report (script_batch_listed batch) done.runs)) c.in-Ok.is done.writes)
          c.saturating_add-written.ensures fits c.and-finished.result c.and-finished.ensures.finished;
      all = c.in-All.is;
      came = c.if-finished.false;
      low = omega (arith, low);
      due = due_then g.W.Wire c.args.limits c.args.wire.now
          (script_batch_listed batch) done.runs.last done.performs.between c.report_batch.new.wire
          (ap (λ told. told.ended) done.last ∙ sym c.and-finished.ensures.ended ∙ c.in-All.is) done.performs.last;
      plan = c.in-Some.ensures.plan ∙ c.loop-batch.invariant.plan;
    }

pub returns-clause-answer : goal.returns-clause-answer
returns-clause-answer g c =
    let batches = c.args.batches.now in
    let i = c.loop-batch.batch-index in
    let many = batch_map_length script_batch_listed batches in
    let low = c.loop-batch.invariant.low in
    let end = c.loop-batch-test.false in
    all_told g.W.Wire c.args.limits (map script_batch_listed batches)
    c.args.wire.now (g.O.Write.contents c.args.report.now) i c.loop-batch.wire
    (g.O.Write.contents c.loop-batch.report) c.loop-batch.finished c.loop-batch.written c.loop-batch.opened
    c.loop-batch.invariant.so_far
    (omega (arith, many, low)) (λ all came. omega (arith, many, low, end))
