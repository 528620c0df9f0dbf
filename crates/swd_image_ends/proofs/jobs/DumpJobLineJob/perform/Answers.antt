use Rattle.std.proofs.Common.{ap}
use Rattle.swd_port.specs.Outside.{wire_calls}
use Rattle.swd_port.specs.Stories.{port_due_by}
use Rattle.swd_run.specs.Wires.{run_story_wire}
use Rattle.swd_image_ends.proofs.CameLemmas.{dump_came_by}
use Rattle.swd_image_ends.proofs.jobs.DumpJobLineJob.perform.Goals as goal

pub dump-answer-requires : goal.dump-answer-requires
dump-answer-requires g c = ap port_due_by c.requires

pub returns : goal.returns
returns g c =
    dump_came_by (λ w. wire_calls w) (run_story_wire g.P.Story.at) _ _ _ c.dump-answer.result (λ bytes. bytes.items)
    _ _ _ _ _ c.requires
    (record {
      dumps = c.dump-answer.ensures.dumps;
      fault = c.dump-answer.ensures.fault;
      report = c.dump-answer.ensures.report;
    })
