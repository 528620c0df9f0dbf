-- The bytes of the reports of an image's calls.
use Rattle.std.specs.Prelude.{ℕ, List, Option}
use Rattle.swd_run.specs.Records.{run_file_held}
use Rattle.swd_console.specs.Streams.{stream_watched}
use Rattle.swd_image_commands.specs.declared.image_report.ImageReports.{ImageReports}
use Rattle.swd_image_commands.specs.declared.image_report.CallsTo.{CallsTo}
use Rattle.swd_image_commands.specs.declared.image_report.CallsTo.TheVariants.{Paced, Errors}

-- the contents of the file, or of standard error; `None` where no report is written
abbrev pub command_reports_to : {M E C : Type 0} → (M → Option (List ℕ)) → (E → Option (List ℕ)) → CallsTo M E C
    → Option (Option (List ℕ))
command_reports_to file errors (Paced reports) = run_file_held (stream_watched file) reports.report
command_reports_to file errors (Errors report) = run_file_held (stream_watched (λ said. errors said.now)) report

abbrev pub command_reports_held : {M E C : Type 0} → (M → Option (List ℕ)) → (E → Option (List ℕ))
    → ImageReports M E C → Option (Option (List ℕ))
command_reports_held file errors reports = command_reports_to file errors reports.to
