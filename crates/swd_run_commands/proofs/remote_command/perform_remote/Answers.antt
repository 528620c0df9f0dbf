use Rattle.std.proofs.Common.{false}
use Rattle.swd_console.specs.Streams.{stream_watched}
use Rattle.swd_script.specs.Readers.{read_script_meaning}
use Rattle.swd_script.proofs.TextLaws.{script_is_runnable}
use Rattle.swd_run_commands.proofs.RecordLemmas.{run_command_files_named}
use Rattle.swd_run_commands.proofs.remote_command.perform_remote.Goals as goal

pub report_to_file-requires-clause-script : goal.report_to_file-requires-clause-script
report_to_file-requires-clause-script g c =
    let is = c.in-Ok-read_script.ensures.ok in
    script_is_runnable is.0 (read_script_meaning c.in-Ok-read_script.read) is.2

pub report_to_file-requires-clause-files : goal.report_to_file-requires-clause-files
report_to_file-requires-clause-files g c =
    run_command_files_named (stream_watched g.F.Made.Write.contents) c.args.run.now false c.in-Ok-open_records.records
    c.in-Ok-open_records.ensures.ok

pub report_to_errors-requires-clause-script : goal.report_to_errors-requires-clause-script
report_to_errors-requires-clause-script g c =
    let is = c.in-Ok-read_script.ensures.ok in
    script_is_runnable is.0 (read_script_meaning c.in-Ok-read_script.read) is.2

pub report_to_errors-requires-clause-files : goal.report_to_errors-requires-clause-files
report_to_errors-requires-clause-files g c =
    run_command_files_named (stream_watched g.F.Made.Write.contents) c.args.run.now false c.in-Ok-open_records.records
    c.in-Ok-open_records.ensures.ok
