use Rattle.std.proofs.Common.{ap}
use Rattle.swd_port.specs.Outside.{wire_calls}
use Rattle.swd_port.specs.Stories.{port_due_by}
use Rattle.swd_run.specs.Wires.{run_story_wire}
use Rattle.swd_image_ends.proofs.CameLemmas.{load_came_by}
use Rattle.swd_image_ends.proofs.jobs.LoadJobLineJob.perform.Goals as goal

pub load_pieces-answer-requires : goal.load_pieces-answer-requires
load_pieces-answer-requires g c = ap port_due_by c.requires

pub returns : goal.returns
returns g c =
    load_came_by (λ w. wire_calls w) (run_story_wire g.P.Story.at) _ _ _ _ _ _ _ _ c.requires
    (record {
      loads = c.load_pieces-answer.ensures.loads;
      fault = c.load_pieces-answer.ensures.fault;
      report =
          c.load_pieces-answer.ensures.report;
    })
