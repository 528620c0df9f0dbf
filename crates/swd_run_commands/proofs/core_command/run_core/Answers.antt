use Rattle.std.proofs.Common.{refl, inr, false}
use Rattle.swd_console.specs.Streams.{stream_watched}
use Rattle.swd_script.specs.Readers.{read_script_meaning}
use Rattle.swd_script.proofs.TextLaws.{script_is_runnable}
use Rattle.swd_run_commands.specs.Cores.{core_line_text}
use Rattle.swd_run_commands.proofs.RecordLemmas.{run_command_files_named}
use Rattle.swd_run_commands.proofs.core_command.run_core.Goals as goal

pub report_to_file-ran-requires-clause-script : goal.report_to_file-ran-requires-clause-script
report_to_file-ran-requires-clause-script g c =
    script_is_runnable (core_line_text c.args.core.now) (read_script_meaning c.args.script.now) c.requires

pub report_to_file-ran-requires-clause-files : goal.report_to_file-ran-requires-clause-files
report_to_file-ran-requires-clause-files g c =
    run_command_files_named (stream_watched g.F.Made.Write.contents) c.args.core.now.run false c.in-Ok.records
    c.in-Ok.ensures.ok

pub returns : goal.returns
returns g c = inr (
  c.report_to_file-ran.result.0,
  (
    core_line_text c.args.core.now,
    refl,
    read_script_meaning c.args.script.now,
    c.requires,
    c.report_to_file-ran.ensures,
  ),
  c.tell_found-status.ensures,
)
