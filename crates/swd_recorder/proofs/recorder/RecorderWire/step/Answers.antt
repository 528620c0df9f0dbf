use Rattle.swd_recorder.proofs.StepLemmas.{recorder_step_of_wire}
use Rattle.swd_recorder.proofs.recorder.RecorderWire.step.Goals as goal

pub returns-clause-step : goal.returns-clause-step
returns-clause-step g c = λ lawful.
    let old = c.args.self.now in
    let was = c.step-seen.ensures.step lawful in (
      was.0,
      recorder_step_of_wire c.args.cue c.step-seen.result old.recording.noted.calls c.record.new.self.noted.calls
          (g.W.Wire.port old.wire) (g.W.Wire.port c.step-seen.new.self) c.record.ensures.calls was.1,
    )
