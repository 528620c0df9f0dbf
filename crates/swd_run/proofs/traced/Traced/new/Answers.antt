use Rattle.std.proofs.Common.{[], ◌-◌, ◌≤◌, ◌∙◌, arith, length, sym, subst}
use Rattle.swd_recorder.specs.Recorders.{recorder_kept, recorder_port}
use Rattle.swd_run.specs.declared.growing.GrowingFile.{GrowingFile}
use Rattle.swd_run.specs.GrowingFiles.{RunTraceHasDone}
use Rattle.swd_run.specs.Recorded.{RunCallsStepped, at_start}
use Rattle.swd_run.specs.Records.{run_file_held}
use Rattle.swd_run.proofs.GrowingLemmas.{growing_file_new_has}
use Rattle.swd_run.proofs.traced.Traced.new.Goals as goal

pub invariant_of-result : goal.invariant_of-result
invariant_of-result g c =
    let start = g.B.Origin.start in
    let contents = g.T.Write.contents in
    let made = c.new.result in
    let items = (recorder_kept made).items in
    let fresh = sym c.new-2.ensures in
    record {
      steps = ∣ (λ law. subst (λ l. RunCallsStepped start l (recorder_port made)) (sym c.new.ensures.calls)
          (subst (RunCallsStepped start []) (c.requires.start ∙ sym c.new.ensures.port) at_start)) ∣₁;
      settled = subst (λ (f : GrowingFile _). f.done ≤ length items - 1) fresh (omega arith);
      has = ∣ subst (λ s. RunTraceHasDone contents s items c.new-2.result) (sym c.requires.before)
          (subst (RunTraceHasDone contents (run_file_held contents c.args.writer) items) fresh
          (growing_file_new_has contents c.args.writer)) ∣₁;
    }
