use Rattle.std.proofs.Common.{◌+◌, ◌≤◌, ◌∙◌, None, length, subst, sym}
use Rattle.std.specs.Prelude.{◌^◌, IfOk}
use Rattle.swd_image_ends.specs.Came.{image_bench_wire}
use Rattle.swd_image_commands.specs.Images.{IsCommandDumped, command_bytes_of}
use Rattle.swd_image_commands.specs.Reports.{command_reports_held}
use Rattle.swd_image_commands.proofs.ImageLemmas.{dump_command_fits, dump_command_somewhere}
use Rattle.swd_image_commands.proofs.SimulatedLemmas.{dump_command_simulated}
use Rattle.swd_image_commands.proofs.simulated_command.dump_over.Goals as goal

pub dump-answer-requires : goal.dump-answer-requires
dump-answer-requires g c = c.requires.rests.due

pub finish_dump-requires : goal.finish_dump-requires
finish_dump-requires g c =
    let dumped = c.dump-answer in
    subst (λ answer. IfOk answer (λ bytes. c.args.image.now.addr + length bytes.items ≤ 2 ^ 32))
    (sym c.reached-answer.ensures)
    (dump_command_fits (λ v. v.items) (image_bench_wire _) c.limits_of-limits.result c.args.image.now.addr c.args.count
    None dumped.result c.args.bench dumped.new.wire dumped.ensures.dumps)

pub returns : goal.returns
returns g c =
    let image = c.args.image.now in
    let dumped = c.dump-answer in
    let held = command_reports_held g.F.Made.Write.contents g.E.Write.contents in
    let status = c.finish_dump.result in
    dump_command_simulated (λ v. v.items) image c.limits_of-limits.result c.args.count c.args.bench dumped.new.wire
    dumped.result (held c.image_reports-report.result) (held dumped.new.report) c.limits_of-limits.ensures
    c.requires.rests (c.image_reports-report.ensures ∙ c.requires.named)
    (record {
      dumps = dumped.ensures.dumps;
      fault = dumped.ensures.fault;
      report = dumped.ensures.report;
    })
    status
    (subst (λ answer. IsCommandDumped image.format image.addr (command_bytes_of (λ bytes. bytes.items) answer) status)
    c.reached-answer.ensures
    (dump_command_somewhere _ _ image.format image.addr
    (command_bytes_of (λ bytes. bytes.items) c.reached-answer.result) status c.finish_dump.ensures))
