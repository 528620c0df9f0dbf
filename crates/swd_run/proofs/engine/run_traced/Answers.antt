use Rattle.std.proofs.Common.{◌≡◌, ◌≤◌, ◌+◌, ◌∙◌, ℕ, Bool, List, Err, ap, arith, false, inl, inr, map, refl}
use Rattle.std.proofs.Common.{subst, sym, true}
use Rattle.std.proofs.Math.Logic.{∥∥₁_map}
use Rattle.swd_trace.specs.declared.item.Item.{Item}
use Rattle.swd_trace.specs.Texts.{trace_text}
use Rattle.swd_port.specs.Leading.{port_line_awaits}
use Rattle.swd_port.specs.declared.call.Call.{Call}
use Rattle.swd_port.specs.Bus.{Bus}
use Rattle.swd_port.specs.Made.{port_made}
use Rattle.swd_observer.specs.Runs.{Accounted}
use Rattle.swd_observer.specs.Traces.{trace_observer_made, trace_observer_unknown, observed_in_trace}
use Rattle.swd_host.specs.Reports.{IsAtRest}
use Rattle.swd_recorder.specs.Recorders.{recorder_calls, recorder_kept, recorder_lawful, recorder_port}
use Rattle.swd_recorder.specs.Items.{RecordingCutOff, recorded_items_by}
use Rattle.swd_recorder.specs.Steps.{recorder_ask_count, recorded_transactions}
use Rattle.swd_script.specs.Readers.{script_batch_listed}
use Rattle.swd_run.specs.Engine.{AreItemsOfCalls, AreItemsSoFar, BatchAnswers, IsOfTraceOver, RanBatches}
use Rattle.swd_run.specs.Engine.{RunFilesOutcome}
use Rattle.swd_run.specs.declared.records.Records.{Records}
use Rattle.swd_run.specs.Records.{AreRunFilesStarted, run_files_from, run_file_held}
use Rattle.swd_run.specs.Records.{no_run_files}
use Rattle.swd_run.specs.GrowingFiles.{GrowingFileHas}
use Rattle.swd_run.specs.Recorded.{RunCallsStepped}
use Rattle.swd_run.specs.Sessions.{script_ended, script_requests}
use Rattle.swd_run.specs.Unfoldings.{calls_of, runs_of}
use Rattle.swd_run.specs.Wires.{run_recorder_wire}
use Rattle.swd_run.proofs.EngineLemmas.{answers_by, begun_in, run_file_unchanged, recorded_in}
use Rattle.swd_run.proofs.GrowingLemmas.{growing_file_started}
use Rattle.swd_run.proofs.RecordedLemmas.{any_run_trace_accounted, run_trace_accounted}
use Rattle.swd_run.proofs.RunLemmas.{run_trace_truncated, run_trace_complete}
use Rattle.swd_run.proofs.SessionLemmas.{recorded}
use Rattle.swd_run.proofs.TransferLemmas.{reported}
use Rattle.swd_run.proofs.engine.run_traced.Goals.{in-Err, in-Ok}
use Rattle.swd_run.proofs.engine.run_traced.Goals as goal

-- each request led to a whole transaction
all_whole : (items list : List Item) (asked due : ℕ) → items ≡ list → recorded_transactions items + due ≡ asked
    → due ≡ 0 → asked ≤ recorded_transactions list
all_whole items list asked due same count rests = let many = ap recorded_transactions same in omega
    (arith, many, count, rests)

-- the items that a recorder kept are those of its calls, or of the first of these
of_first : (cut : Bool) (items : List Item) (calls : List Call) → (cut ≡ false → items ≡ recorded_items_by calls)
    → (cut ≡ true → ∥ RecordingCutOff items calls ∥₁) → AreItemsOfCalls calls items
of_first false items calls whole part = inl (whole refl)
of_first true items calls whole part = inr (part refl)

pub returns-clause-answer : goal.returns-clause-answer
returns-clause-answer g c =
    let limits = c.args.limits in
    let batches = map script_batch_listed c.args.batches.now in
    let start = c.args.traced.recorder in
    let wire = c.run_reported-ran.new.wire in
    let end = c.finish-recorder.result.0 in
    let same : end ≡ wire.recorder = c.finish-recorder.ensures.recorder in
    let old = g.O.Write.contents c.args.report.now in
    let new = g.O.Write.contents c.run_reported-ran.new.report in
    let contents = g.T.Write.contents in
    let text = g.I.ItemsPrinter.text in
    let noted : List Call → Type 0 = g.B.Origin.noted in
    let first = g.B.Origin.before in
    let file = c.finish-recorder.result.1 in
    let items = c.items-items.result.now in
    let before = run_files_from first (run_file_held contents c.args.records.now.accesses)
    (text c.args.records.now.printer) in
    let after = λ (records : Records _ _ _). run_files_from (run_file_held contents file.writer)
    (run_file_held contents records.accesses) (text records.printer) in
    let has : ∥ GrowingFileHas contents first file (trace_text items) ∥₁ =
    subst (λ l. ∥ GrowingFileHas contents first file (trace_text l) ∥₁)
    (sym (c.items-items.ensures.items ∙ ap (λ r. (recorder_kept r).items) same)) c.finish-recorder.ensures.file in
    let ran : BatchAnswers (run_recorder_wire noted) limits batches start end
    c.run_reported-ran.result old new no_run_files no_run_files =
    answers_by (λ traced. traced.recorder) (run_recorder_wire noted) limits batches
    c.args.traced wire start end
    refl (sym same) c.run_reported-ran.result old new no_run_files no_run_files c.run_reported-ran.ensures.answer in
    let kept = λ (over : RanBatches (run_recorder_wire noted) limits batches start end)
    (law : recorder_lawful end) (rest : IsAtRest (recorder_port start)).
    recorded (run_recorder_wire noted) limits start rest (calls_of batches over.made)
    (runs_of over.made) end c.requires.asked over.are law in
    let so_far : AreItemsSoFar (run_recorder_wire noted) end items = record {
      read = c.items-items.ensures.read;
      of_calls = λ calls is. subst (λ l. AreItemsOfCalls l items) is.0 (of_first (recorder_kept end).is_cut items
          (recorder_calls end) c.items-items.ensures.whole c.items-items.ensures.cut);
    } in
    let part : (over : RanBatches (run_recorder_wire noted) limits batches start end)
    → IsOfTraceOver over items =
    λ over. record {
      so_far = so_far;
      part = λ law rest. run_trace_truncated (script_requests (runs_of over.made)) (script_ended (runs_of over.made))
          (recorder_port end) items (kept over law rest) c.items-items.ensures.read c.items-items.ensures.most;
    } in
    let steps = subst (λ r. ∥ (recorder_lawful r
    → RunCallsStepped g.B.Origin.start (recorder_calls r) (recorder_port r)) ∥₁) (sym same) wire.steps
    in
    elim c.match-ran.branch [
      | in-Ok w ↦
          let finished = w.in-Ok.finished in
          let all = subst (λ answer. BatchAnswers (run_recorder_wire noted) limits batches
          start end answer old new no_run_files no_run_files) w.in-Ok.is ran in
          let over = all.0 in
          let explained : recorder_lawful end → IsAtRest (recorder_port start) → c.is_cut-cut.result ≡ false
          → (identification : ℕ) (m : Bus) → recorder_port start ≡ port_made identification m
          → ∥ Accounted m.log (observed_in_trace items trace_observer_made) (recorder_port end) ∥₁ =
          λ law rest whole identification m is_made.
          let uncut = sym c.is_cut-cut.ensures ∙ whole in
          let is = c.items-items.ensures.whole uncut in
          let count = c.items-items.ensures.counted uncut in
          ∥∥₁_map steps (λ steps.
          subst (λ l. Accounted m.log (observed_in_trace l trace_observer_made) (recorder_port end)) (sym is)
          (run_trace_accounted identification m (recorder_calls end) (recorder_port end)
          (subst (λ s. RunCallsStepped s (recorder_calls end) (recorder_port end)) (c.requires.start ∙ is_made)
          (steps law))
          (all_whole items (recorded_items_by (recorder_calls end)) (recorder_ask_count (recorder_calls end)) _ is count
          (kept over law rest).rests))) in
          let explained_any : recorder_lawful end → IsAtRest (recorder_port start) → c.is_cut-cut.result ≡ false
          → port_line_awaits (recorder_port start).link.line ≡ false
          → ∥ Accounted (recorder_port start).target.memory.log (observed_in_trace items trace_observer_unknown)
          (recorder_port end) ∥₁ =
          λ law rest whole idle.
          let uncut = sym c.is_cut-cut.ensures ∙ whole in
          let is = c.items-items.ensures.whole uncut in
          let count = c.items-items.ensures.counted uncut in
          ∥∥₁_map steps (λ steps.
          subst (λ l. Accounted (recorder_port start).target.memory.log (observed_in_trace l trace_observer_unknown)
          (recorder_port end)) (sym is)
          (any_run_trace_accounted (recorder_calls end) (recorder_port start) (recorder_port end) rest.due rest.settled
          idle (subst (λ s. RunCallsStepped s (recorder_calls end) (recorder_port end)) c.requires.start (steps law))
          (all_whole items (recorded_items_by (recorder_calls end)) (recorder_ask_count (recorder_calls end)) _ is count
          (kept over law rest).rests))) in
          let reported_by = reported (run_recorder_wire noted) limits start in
          let told : RunFilesOutcome finished c.is_cut-cut.result items before
          (after w.write_records-answer.new.records) w.write_records-answer.result =
          w.write_records-answer.ensures first has in
          let answered : BatchAnswers (run_recorder_wire noted) limits batches start end
          w.write_records-answer.result old new before (after w.write_records-answer.new.records) =
          recorded_in (run_recorder_wire noted) limits batches start end old new finished
          c.is_cut-cut.result items over all.1 all.2 all.3 (λ whole.
          let uncut = sym c.is_cut-cut.ensures ∙ whole in
          record {
            read = c.items-items.ensures.read;
            of_calls = λ calls noted_so. c.items-items.ensures.whole uncut ∙ ap recorded_items_by noted_so.0;
            whole = λ law rest. run_trace_complete (script_requests (runs_of over.made))
                (script_ended (runs_of over.made)) (recorder_port end) items (kept over law rest)
                c.items-items.ensures.read (c.items-items.ensures.counted uncut) (c.items-items.ensures.lost uncut);
            explained = λ law rest. explained law rest whole;
            explained_any = λ law rest. explained_any law rest whole;
            reported = λ law rest all identification m is_made.
                ∥∥₁_map (explained law rest whole identification m is_made) (λ told.
                reported_by rest (calls_of batches over.made) (runs_of over.made) end
                (observed_in_trace items trace_observer_made) over.are
                law all (subst (λ p. Accounted p (observed_in_trace items trace_observer_made) (recorder_port end))
                (sym (ap (λ x. x.target.memory.log) is_made)) told));
            reported_any = λ law rest all idle.
                ∥∥₁_map (explained_any law rest whole idle) (λ told.
                reported_by rest (calls_of batches over.made) (runs_of over.made) end
                (observed_in_trace items trace_observer_unknown) over.are law all told);
          })
          (part over) before (after w.write_records-answer.new.records) c.requires.wanted w.write_records-answer.result
          told in
          subst (λ answer. BatchAnswers (run_recorder_wire noted) limits batches start end
          answer old new before (after c.match-ran.records)) (sym w.answer-is)
          (subst (λ records. BatchAnswers (run_recorder_wire noted) limits batches start end
          w.write_records-answer.result old new before (after records)) (sym w.records-is) answered)
      | in-Err w ↦
          let fault = w.in-Err.fault in
          let all = subst (λ answer. BatchAnswers (run_recorder_wire noted) limits batches
          start end answer old new no_run_files no_run_files) w.in-Err.is ran in
          let begun : AreRunFilesStarted items before (after c.args.records.now) = record {
            trace = growing_file_started contents first file.writer file.sent (trace_text items) has;
            accesses = run_file_unchanged (run_file_held contents c.args.records.now.accesses);
          } in
          let answered : BatchAnswers (run_recorder_wire noted) limits batches start end
          (Err fault) old new before (after c.args.records.now) =
          begun_in (run_recorder_wire noted) limits batches start end old new fault items
          so_far part before (after c.args.records.now) c.requires.wanted begun all in
          subst (λ answer. BatchAnswers (run_recorder_wire noted) limits batches start end
          answer old new before (after c.match-ran.records)) (sym w.answer-is)
          (subst (λ records. BatchAnswers (run_recorder_wire noted) limits batches start end
          (Err fault) old new before (after records)) (sym w.records-is) answered)
    ]
