use Rattle.std.proofs.Common.{◌-◌, ◌≤◌, ◌∙◌, ◌++◌, length, sym, subst}
use Rattle.std.proofs.Math.Logic.{∥∥₁_map}
use Rattle.swd_recorder.specs.Kept.{RecorderKept}
use Rattle.swd_recorder.specs.Recorders.{recorder_calls, recorder_port}
use Rattle.swd_run.specs.Recorded.{RunCallsStepped}
use Rattle.swd_run.specs.GrowingFiles.{RunTraceHasDone}
use Rattle.swd_run.proofs.traced.TracedWire.announce.Goals as goal

pub returns-clause-notes : goal.returns-clause-notes
returns-clause-notes g c = λ calls noted. (
  c.announce.ensures.calls ∙ noted.0,
  λ before was. c.announce.ensures.noted (calls ++ before) (noted.1 before was),
)

pub invariant_of-self : goal.invariant_of-self
invariant_of-self g c =
    let self = c.args.self.now in
    let new = c.announce.new.self in
    let same = c.announce.ensures in
    let start = g.B.Origin.start in record {
      steps = ∥∥₁_map self.steps (λ steps law.
          subst (λ l. RunCallsStepped start l (recorder_port new)) (sym same.calls)
          (subst (RunCallsStepped start (recorder_calls self.recorder)) (sym same.port) (steps (same.lawful law))));
      settled = subst (λ (k : RecorderKept). self.file.done ≤ length k.items - 1) (sym same.kept) self.settled;
      has = ∥∥₁_map self.has (λ h.
          subst (λ (k : RecorderKept). RunTraceHasDone g.T.Write.contents g.B.Origin.before k.items self.file)
          (sym same.kept) h);
    }
