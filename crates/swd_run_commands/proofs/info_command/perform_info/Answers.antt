use Rattle.std.proofs.Common.{[]}
use Rattle.std.proofs.Math.Logic.{∥∥₁_map}
use Rattle.swd_console.specs.Connections.{command_way}
use Rattle.swd_ends.proofs.AccessLemmas.{remote_end_ran_over}
use Rattle.swd_run_commands.proofs.info_command.perform_info.Goals as goal

pub returns : goal.returns
returns g c =
    let (calls, came, over) = c.at_the_target-answer.ensures in
    let (answer, line, verdict) = c.at_the_target-answer.result in (
      answer,
      remote_end_ran_over (command_way c.args.info.now.probe) g.P.Story.at [] c.args.info.now.tries g.I.Read.remaining
          g.O.Write.contents (g.O.Write.contents c.args.output) (g.I.Read.remaining c.args.input) answer line calls came
          (∥∥₁_map over (λ over. over.over)),
      c.info_status-status.ensures,
    )
