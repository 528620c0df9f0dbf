use Rattle.std.proofs.Common.{ap}
use Rattle.swd_port.specs.Outside.{wire_calls}
use Rattle.swd_port.specs.Stories.{port_due_by}
use Rattle.swd_run.specs.Wires.{run_story_wire}
use Rattle.swd_image_ends.proofs.CameLemmas.{verify_came_by}
use Rattle.swd_image_ends.proofs.jobs.VerifyJobLineJob.perform.Goals as goal

pub verify_pieces-answer-requires : goal.verify_pieces-answer-requires
verify_pieces-answer-requires g c = ap port_due_by c.requires

pub returns : goal.returns
returns g c =
    verify_came_by (λ w. wire_calls w) (run_story_wire g.P.Story.at) _ _ _ _ _ _ _ _ c.requires
    (record {
      verifies = c.verify_pieces-answer.ensures.verifies;
      fault = c.verify_pieces-answer.ensures.fault;
      report =
          c.verify_pieces-answer.ensures.report;
    })
