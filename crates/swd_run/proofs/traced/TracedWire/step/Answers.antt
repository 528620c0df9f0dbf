use Rattle.std.proofs.Common.{◌-◌, ◌≤◌, ◌∙◌, ◌∷◌, ◌++◌, List, length, ap, sym, subst}
use Rattle.std.proofs.Math.Logic.{∥∥₁_map}
use Rattle.swd_port.specs.declared.call.Call.{Call}
use Rattle.swd_trace.specs.Texts.{trace_text}
use Rattle.swd_recorder.specs.Recorders.{recorder_kept, recorder_port}
use Rattle.swd_run.specs.Recorded.{RunCallsStepped, further}
use Rattle.swd_run.specs.GrowingFiles.{GrowingFileHas, RunTraceHasDone}
use Rattle.swd_run.proofs.TraceLemmas.{run_trace_settled_stays}
use Rattle.swd_run.proofs.traced.TracedWire.step.Goals as goal

pub write_settled-requires-clause-within : goal.write_settled-requires-clause-within
write_settled-requires-clause-within g c =
    let self = c.args.self.now in
    let done = self.file.done in
    let stay = run_trace_settled_stays _ (recorder_kept self.recorder) (recorder_kept c.step-seen.new.self) done
    c.step-seen.ensures.adds self.settled in
    subst (λ l. done ≤ length l - 1) (sym c.items.ensures.items) stay.1

pub returns-clause-notes : goal.returns-clause-notes
returns-clause-notes g c = λ calls noted.
    let call : Call = record { cue = c.args.cue; seen = c.step-seen.result } in (
      c.step-seen.ensures.calls ∙ ap (λ l. call ∷ l) noted.0,
      λ before was. c.step-seen.ensures.noted (calls ++ before) (noted.1 before was),
    )

pub invariant_of-self : goal.invariant_of-self
invariant_of-self g c =
    let self = c.args.self.now in
    let ran = c.step-seen.ensures in
    let contents = g.T.Write.contents in
    let before = g.B.Origin.before in
    let old = recorder_kept self.recorder in
    let new = recorder_kept c.step-seen.new.self in
    let stay = run_trace_settled_stays _ old new self.file.done ran.adds self.settled in
    record {
      steps = ∥∥₁_map self.steps (λ steps law.
          let both = ran.step law in
          subst (λ (l : List Call). RunCallsStepped g.B.Origin.start l (recorder_port c.step-seen.new.self))
          (sym ran.calls) (further (steps both.0) c.requires ran.seen both.1 ran.due));
      settled = subst (λ l. c.write_settled.new.file.done ≤ length l - 1) c.items.ensures.items
          c.write_settled.ensures.within;
      has = ∥∥₁_map self.has (λ h.
          subst (λ l. RunTraceHasDone contents before l c.write_settled.new.file) c.items.ensures.items
          (c.write_settled.ensures.has before
          (subst (λ l. RunTraceHasDone contents before l self.file) (sym c.items.ensures.items)
          (subst (λ l. GrowingFileHas contents before self.file (trace_text l)) (sym stay.0) h))));
    }
