use Rattle.std.proofs.Common.{List, Option, map, ℕ, subst}
use Rattle.swd_script.specs.Readers.{script_batch_listed}
use Rattle.swd_run.specs.Engine.{BatchAnswers}
use Rattle.swd_run.specs.Records.{RunFiles, run_files_from, run_files_of, run_file_held}
use Rattle.swd_run.specs.Wires.{run_recorder_wire}
use Rattle.swd_run.proofs.EngineLemmas.{batch_answers_recorded}
use Rattle.swd_run.proofs.engine.run_recorded.Goals as goal

pub returns-clause-answer : goal.returns-clause-answer
returns-clause-answer g c =
    let contents = g.T.Write.contents in
    let text = g.I.ItemsPrinter.text in
    let noted = g.B.Origin.noted in
    let records = c.args.records.now in
    let ran = c.run_traced-answer in
    let batches = map script_batch_listed c.args.batches.now in
    let start = c.new-traced.result.recorder in
    let old = g.O.Write.contents c.args.report.now in
    let new = g.O.Write.contents ran.new.report in
    let before : Option (Option (List ℕ)) → RunFiles =
    λ trace. run_files_from trace (run_file_held contents records.accesses) (text records.printer) in
    let after = run_files_of contents text ran.new.records in
    let over : BatchAnswers (run_recorder_wire noted) c.args.limits batches start
    ran.result.1 ran.result.0 old new (before (run_file_held contents records.trace)) after =
    subst (λ trace. BatchAnswers (run_recorder_wire noted) c.args.limits batches start
    ran.result.1 ran.result.0 old new (before trace) after) c.requires.before ran.ensures.answer in
    batch_answers_recorded noted c.args.limits batches start ran.result.1 c.args.wire
    c.into_wire.result
    c.new-traced.ensures.wire c.new-traced.ensures.calls c.into_wire.ensures.wire
    ran.result.0 old new (before (run_file_held contents records.trace)) after over
