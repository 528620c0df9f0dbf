use Rattle.std.proofs.Common.{◌≡◌, List, [], false, map, refl, subst, sym, true, ◌∙◌}
use Rattle.swd_port.specs.declared.call.Call.{Call}
use Rattle.swd_script.specs.Readers.{script_batch_listed}
use Rattle.swd_run.specs.Engine.{BatchAnswers}
use Rattle.swd_run.specs.Records.{run_files_of, wants_run_files, no_run_files}
use Rattle.swd_run.specs.Wires.{run_wire_seen}
use Rattle.swd_run.proofs.EngineLemmas.{answers_by, wants_files_by_records, unwanted}
use Rattle.swd_run.proofs.engine.run_batches.Goals as goal

pub run_recorded-requires-clause-wanted : goal.run_recorded-requires-clause-wanted
run_recorded-requires-clause-wanted g c =
    wants_files_by_records g.T.Write.contents g.I.ItemsPrinter.text c.args.records.now ∙ sym c.is_wanted.ensures
    ∙ c.if-is_wanted.true

pub returns-then-is_wanted-clause-answer : goal.returns-then-is_wanted-clause-answer
returns-then-is_wanted-clause-answer g c =
    let ran = c.run_recorded in
    let before = run_files_of g.T.Write.contents g.I.ItemsPrinter.text c.args.records.now in
    let after = run_files_of g.T.Write.contents g.I.ItemsPrinter.text ran.new.records in
    let some : wants_run_files before ≡ true =
    wants_files_by_records g.T.Write.contents g.I.ItemsPrinter.text c.args.records.now ∙ sym c.is_wanted.ensures
    ∙ c.if-is_wanted.true in (
      ran.ensures.answer.0,
      subst (λ flag. BatchAnswers (run_wire_seen flag g.W.Wire (λ noted. g.W.Wire.notes noted c.args.wire))
          c.args.limits (map script_batch_listed c.args.batches.now) ([], c.args.wire)
          (ran.ensures.answer.0, ran.result.1) ran.result.0 (g.O.Write.contents c.args.report.now)
          (g.O.Write.contents ran.new.report) before after) (sym some) ran.ensures.answer.1,
    )

pub returns-clause-answer : goal.returns-clause-answer
returns-clause-answer g c =
    let batches = map script_batch_listed c.args.batches.now in
    let end = c.run_reported-answer.new.wire in
    let old = g.O.Write.contents c.args.report.now in
    let new = g.O.Write.contents c.run_reported-answer.new.report in
    let files = run_files_of g.T.Write.contents g.I.ItemsPrinter.text c.args.records.now in
    let noted : List Call → Type 0 = λ calls. g.W.Wire.notes calls c.args.wire in
    let empty : wants_run_files files ≡ false =
    wants_files_by_records g.T.Write.contents g.I.ItemsPrinter.text c.args.records.now ∙ sym c.is_wanted.ensures
    ∙ c.if-is_wanted.false in (
      [],
      subst (λ flag. BatchAnswers (run_wire_seen flag g.W.Wire noted) c.args.limits batches
          ([], c.args.wire) ([], end) c.run_reported-answer.result old new files files) (sym empty)
          (unwanted (run_wire_seen false g.W.Wire noted) c.args.limits batches
          ([], c.args.wire) ([], end)
          old new files empty c.run_reported-answer.result
          (answers_by (λ wire. ([], wire)) (run_wire_seen false g.W.Wire noted) c.args.limits batches
          c.args.wire end ([], c.args.wire) ([], end) refl refl c.run_reported-answer.result old new no_run_files
          no_run_files c.run_reported-answer.ensures.answer)),
    )
