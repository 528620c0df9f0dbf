use Rattle.std.proofs.Common.{◌∙◌, ◌≡◌, ◌≤◌, List, [], inl, map, refl, sym, ap, subst}
use Rattle.std.proofs.KnownBytes.{Appends-nil}
use Rattle.std.specs.Prelude.{All as Each}
use Rattle.swd_port.specs.declared.mark.Mark.{Mark}
use Rattle.swd_port.specs.declared.wire.Wire.{Ghosts}
use Rattle.swd_port.specs.MarkCounts.{port_disturbed_among, port_lost_among}
use Rattle.swd_target.specs.declared.bench.Bench.{Bench}
use Rattle.swd_target.specs.Benches.{bench_plan, bench_port}
use Rattle.swd_script.specs.Laws.{IsScriptBatch}
use Rattle.swd_script.specs.Readers.{script_batch_listed, read_script_meaning}
use Rattle.std.specs.Io.KnownBytes.{Appends}
use Rattle.swd_run.specs.Engine.{BatchAnswersAt}
use Rattle.swd_run.specs.Records.{run_files_of}
use Rattle.swd_run.specs.Reports.{batch_report}
use Rattle.swd_run.specs.Running.{IsTraceUpTo, ScriptRunAnswers, ScriptSession, full_room, none}
use Rattle.swd_run.specs.Running.{with_full_room}
use Rattle.swd_run.specs.declared.script_device.ScriptDevice.{ScriptDevice}
use Rattle.swd_run.specs.ScriptDevices.{script_bus, script_device_bus}
use Rattle.swd_run.specs.Unfoldings.{no_batch}
use Rattle.swd_run.proofs.ReportLemmas.{report_pairs_empty}
use Rattle.swd_run.proofs.EngineLemmas.{no_call_run_files, no_items_read, script_run_answers}
use Rattle.swd_run.proofs.ToldLemmas.{none_told}
use Rattle.swd_run.proofs.UnfoldingLemmas.{unfolded_calls_empty, unfolded_until_empty}
use Rattle.swd_run.proofs.running.run_script.Goals as goal

-- the simulated target of a script, as a wire
abbrev bench_wire : {A : Type 0} → Ghosts (Bench (ScriptDevice A) A)
bench_wire {A} = record {
  port = bench_port script_device_bus;
  plan = bench_plan;
  lawful = λ bench. Unit {0};
  notes = λ calls bench. Unit {0};
}

pub run_batches-answer-requires-clause-batches : goal.run_batches-answer-requires-clause-batches
run_batches-answer-requires-clause-batches g c =
    subst (λ batches. Each IsScriptBatch (map script_batch_listed batches)) (sym c.as_slice-batches.ensures.value)
    c.requires.script.batches

pub run_batches-answer-requires-clause-due : goal.run_batches-answer-requires-clause-due
run_batches-answer-requires-clause-due g c = ap (λ x. x.link.due) c.in-Some.ensures.port

pub returns-in_default : goal.returns-in_default
returns-in_default g c =
    let writer = g.W.Write.contents c.args.writer.now in
    let script = read_script_meaning c.args.script.now in (
      script_bus script,
      (
        record {
          made = [];
          memory = script_bus script;
          are = record {
            unfolds = no_batch;
            session = subst (λ calls. ScriptSession c.args.limits c.args.plan.items
                (script_bus script)
                calls [] (script_bus script)) (sym (unfolded_calls_empty script.batches)) none;
          };
          all = refl;
          came = unfolded_until_empty script.batches;
        },
        subst (Appends writer writer) (sym (report_pairs_empty batch_report script.batches)) (Appends-nil writer),
        no_call_run_files (IsTraceUpTo script.batches []) (record {
          read = no_items_read;
          more = [];
          calls = [];
          told = none_told script.batches;
          of_calls = inl refl;
        }) (run_files_of g.T.Write.contents g.I.ItemsPrinter.text c.args.records.now),
      ),
    )

pub returns : goal.returns
returns g c =
    let ran = c.run_batches-answer in
    let script = read_script_meaning c.args.script.now in
    let old = g.W.Write.contents c.args.writer.now in
    let new = g.W.Write.contents ran.new.report in
    let before = run_files_of g.T.Write.contents g.I.ItemsPrinter.text c.args.records.now in
    let after = run_files_of g.T.Write.contents g.I.ItemsPrinter.text ran.new.records in
    let memory = (bench_port script_device_bus ran.result.1).target.memory in
    let full : c.full_room.result ≡ full_room script.room memory = c.full_room.ensures
    ∙ ap (full_room script.room) (sym c.device.ensures) in
    subst (λ answer. ScriptRunAnswers c.args.limits script c.args.plan.items answer old new
    before after)
    (sym (c.with_full.ensures ∙ ap (λ used. with_full_room used ran.result.0) full))
    (script_run_answers bench_wire c.args.limits script
    c.args.plan.items c.in-Some.bench ran.result.1 c.in-Some.ensures.port c.in-Some.ensures.plan tt
    (λ bench same. (
      subst (λ (x : List Mark). (bench_port script_device_bus bench).tally.disturbed ≤ port_disturbed_among x) same
          (c.marks_used.ensures.disturbed_most bench),
      subst (λ (x : List Mark). (bench_port script_device_bus bench).tally.lost ≤ port_lost_among x) same
          (c.marks_used.ensures.lost_most bench),
    )) tt memory refl ran.result.0 old new before after
    (subst (λ batches. BatchAnswersAt bench_wire c.args.limits
    (map script_batch_listed batches) c.in-Some.bench ran.result.1 ran.result.0 old new before after)
    c.as_slice-batches.ensures.value ran.ensures.answer))
