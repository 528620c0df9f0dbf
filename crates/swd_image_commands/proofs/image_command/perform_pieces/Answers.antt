use Rattle.std.proofs.Common.{◌∙◌, [], ap, inr, subst}
use Rattle.swd_image_ends.specs.Pieces.{pieces_to_load}
use Rattle.swd_console.specs.Verdicts.{command_status_of_session}
use Rattle.swd_run.specs.Wires.{run_story_wire}
use Rattle.swd_image_commands.specs.Images.{command_status_compared, command_status_in}
use Rattle.swd_image_commands.specs.Pieces.{PiecesCame}
use Rattle.swd_image_commands.specs.Reports.{command_reports_held}
use Rattle.swd_image_commands.proofs.image_command.perform_pieces.Goals as goal

pub returns : goal.returns
returns g c =
    let (calls, came, over) = c.at_the_target-answer.ensures in
    let held = command_reports_held g.F.Made.Write.contents g.E.Write.contents in
    let before = held c.image_reports.result in
    let after = held c.at_the_target-answer.new.job.report in
    let pieces = pieces_to_load c.in-Ok.whole in
    let answer = c.at_the_target-answer.result.0 in
    let verdict = c.at_the_target-answer.result.2 in inr (
      pieces,
      answer,
      c.in-Ok.ensures.pieces,
      before,
      after,
      c.image_reports.ensures ∙ c.in-Ok-open_report.ensures.named,
      calls,
      verdict,
      subst (λ limits. PiecesCame (run_story_wire g.P.Story.at) limits c.args.action pieces answer [] calls before
          after) c.limits_of.ensures came,
      over,
      c.session_status.ensures ∙ ap (command_status_of_session verdict)
          (c.pieces_status-status.ensures ∙ ap (command_status_in command_status_compared) c.reached-answer.ensures),
    )
