use Rattle.std.proofs.Common.{ap}
use Rattle.swd_port.specs.Stories.{port_due_by}
use Rattle.swd_port.specs.Outside.{wire_calls}
use Rattle.swd_host.proofs.Outsides.{host_run_fresh_wire, host_run_noted_calls}
use Rattle.swd_remote.proofs.WholeLemmas.{remote_still_no_calls}
use Rattle.swd_ends.proofs.accesses_job.AccessesJobLineJob.perform.Goals as goal

pub run-answer-requires : goal.run-answer-requires
run-answer-requires g c = ap port_due_by c.requires

pub returns : goal.returns
returns g c =
    let list = c.args.self.now.accesses.now in
    let before = wire_calls c.args.wire in
    let after = wire_calls c.run-answer.new.wire in
    let ran = c.run-answer.ensures in
    record {
      closes = ran.closes;
      fits = host_run_fresh_wire c.run-answer.result list c.args.self.now.tries g.P.Story.at before after c.requires
          ran.fits;
      told = host_run_noted_calls c.run-answer.result list before after c.requires ran.told;
      accepted = ran.accepted;
      refused = ran.refused;
      untouched = remote_still_no_calls c.run-answer.result (λ wire. wire_calls wire) c.run-answer.new.wire c.args.wire
          c.requires ran.untouched;
    }
