use Rattle.std.proofs.Common.{ap}
use Rattle.swd_port.specs.Outside.{wire_calls}
use Rattle.swd_port.specs.Stories.{port_due_by}
use Rattle.swd_run.specs.Wires.{run_story_wire}
use Rattle.swd_image_commands.proofs.PieceLemmas.{pieces_came_by}
use Rattle.swd_image_commands.proofs.pieces.PiecesJobLineJob.perform.Goals as goal

pub make_calls-answer-requires : goal.make_calls-answer-requires
make_calls-answer-requires g c = ap port_due_by c.requires

pub returns : goal.returns
returns g c =
    pieces_came_by (λ w. wire_calls w) (run_story_wire g.P.Story.at) _ _ _ _ _ _ _ _ _ c.requires
    c.make_calls-answer.ensures.came
