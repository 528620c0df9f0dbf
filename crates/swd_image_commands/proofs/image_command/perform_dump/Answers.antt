use Rattle.std.proofs.Common.{◌+◌, ◌≤◌, ◌∙◌, [], length, subst, sym}
use Rattle.std.specs.Prelude.{◌^◌, IfOk}
use Rattle.swd_run.specs.Wires.{run_story_wire}
use Rattle.swd_image_commands.specs.Images.{IsCommandDumped, command_bytes_of}
use Rattle.swd_image_commands.specs.Reports.{command_reports_held}
use Rattle.swd_image_commands.proofs.ImageLemmas.{dump_command_fits, dump_command_performed, dump_command_somewhere}
use Rattle.swd_image_commands.proofs.image_command.perform_dump.Goals as goal

pub finish_dump-status-requires : goal.finish_dump-status-requires
finish_dump-status-requires g c =
    let (calls, came, over) = c.at_the_target-answer.ensures in
    subst (λ answer. IfOk answer (λ bytes. c.args.image.now.addr + length bytes.items ≤ 2 ^ 32))
    (sym c.reached-answer.ensures)
    (dump_command_fits (λ v. v.items) (run_story_wire g.P.Story.at) c.limits_of.result c.args.image.now.addr
    c.args.count c.at_the_target-answer.result.1.fault c.at_the_target-answer.result.0 [] calls came.dumps)

pub returns : goal.returns
returns g c =
    let (calls, came, over) = c.at_the_target-answer.ensures in
    let held = command_reports_held g.F.Made.Write.contents g.E.Write.contents in
    let image = c.args.image.now in
    let status = c.finish_dump-status.result in
    dump_command_performed (λ v. v.items) g.P.Story.at image c.limits_of.result c.args.count
    c.at_the_target-answer.result.0 (held c.image_reports.result)
    (held c.at_the_target-answer.new.job.report) calls c.limits_of.ensures
    (c.image_reports.ensures ∙ c.in-Ok-open_report.ensures.named) came g.I.Read.remaining g.O.Write.contents
    (g.O.Write.contents c.args.output) (g.I.Read.remaining c.args.input) c.at_the_target-answer.result.1
    c.at_the_target-answer.result.2
    over status _ c.session_status.ensures
    (subst (λ answer. IsCommandDumped image.format image.addr (command_bytes_of (λ bytes. bytes.items) answer) status)
    c.reached-answer.ensures
    (dump_command_somewhere _ _ image.format image.addr
    (command_bytes_of (λ bytes. bytes.items) c.reached-answer.result) status c.finish_dump-status.ensures))
