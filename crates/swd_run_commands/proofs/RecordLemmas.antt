-- The files that a run writes beside its report, by their writers.
use Rattle.std.proofs.Common.{◌≡◌, ℕ, Bool, List, Option, ◌∙◌, ap}
use Rattle.std.specs.Prelude.{is_some}
use Rattle.swd_capture_text.specs.declared.accesses_printer.AccessesPrinter.{AccessesPrinter}
use Rattle.swd_capture_text.specs.Captures.{accesses_printed, accesses_text}
use Rattle.swd_run.specs.declared.records.Records.{Records}
use Rattle.swd_run.specs.Records.{run_file_held, run_files_from, run_files_of}
use Rattle.swd_run.proofs.EngineLemmas.{run_file_is_some}
use Rattle.swd_command_line.specs.declared.command.RunLine.{RunLine}
use Rattle.swd_run_commands.specs.Runs.{AreRunCommandFiles}

-- there are writers for the files that are named
pub run_command_files_named : {T G : Type 0} (contents : T → Option (List ℕ)) (run : RunLine) (made : Bool)
    (records : Records T AccessesPrinter G)
    → (is_some records.trace ≡ is_some run.trace) × (is_some records.accesses ≡ is_some run.accesses)
    × (records.printer.made ≡ made) → AreRunCommandFiles run made (run_files_of contents accesses_printed records)
run_command_files_named contents run made records is = record {
  trace = run_file_is_some contents records.trace ∙ is.0;
  accesses = run_file_is_some contents records.accesses ∙ is.1;
  shown = ap accesses_text is.2;
}

-- they are the same, whatever is told how far the run is
pub run_files_told : {T G H : Type 0} (contents : T → Option (List ℕ)) (records : Records T AccessesPrinter G)
    (told : Records T AccessesPrinter H)
    → told.trace ≡ records.trace → told.accesses ≡ records.accesses → told.printer ≡ records.printer
    → run_files_of contents accesses_printed told ≡ run_files_of contents accesses_printed records
run_files_told contents records told trace accesses printer =
    let held = run_file_held contents in
    ap (λ file. run_files_from (held file) (held told.accesses) (accesses_printed told.printer)) trace
    ∙ ap (λ file. run_files_from (held records.trace) (held file) (accesses_printed told.printer)) accesses
    ∙ ap (λ it. run_files_from (held records.trace) (held records.accesses) (accesses_printed it)) printer
